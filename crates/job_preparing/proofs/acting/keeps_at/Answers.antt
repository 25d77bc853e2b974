use Rattle.std.proofs.Common.{◌++◌, ◌∷◌, [], ap, ◌∙◌, arith}
use Rattle.param_resolver.specs.Numbering.{acting}
use Rattle.param_resolver.specs.Numbering.{has_state}
use Rattle.job_preparing.proofs.ActingPlaces.{one_more, all_more, told_here}
use Rattle.job_preparing.proofs.acting.keeps_at.Goals as goal

pub loop-n-preserved : goal.loop-n-preserved
loop-n-preserved c = one_more (has_state c.args.graphs.now) (acting c.args.graph.now) c.loop-n.n c.acting_at.result.now c.loop-n.keeps.items c.push.new.self.items c.acting_at.ensures c.loop-n.invariant (c.in_ok-push.ensures.items ∙ ap (λ k. c.loop-n.keeps.items ++ k ∷ []) (c.has_state.ensures c.args.graphs.now (told_here c.level_by_actor.ensures.each c.args.graph.now c.loop-n.n c.acting_at.result.now c.acting_at.ensures c.args.graphs.now c.in_ok-holds.holds.items c.deref.result.now c.items.result.now c.items.ensures c.deref.ensures.value c.in_ok-holds.ensures)))

pub returns : goal.returns
returns c = all_more (has_state c.args.graphs.now) c.level_by_actor.ensures.many c.args.graph.now c.args.places.now c.loop-n.n c.loop-n.keeps.items c.requires (omega arith) c.loop-n.invariant
