use Rattle.std.proofs.Common.{◌++◌, ◌∷◌, [], ap, ◌∙◌, arith}
use Rattle.param_resolver.specs.Numbering.{acting}
use Rattle.pisdf_model.specs.declared.actor.Actor.{Actor}
use Rattle.job_preparing.proofs.ActingPlaces.{one_more, all_more}
use Rattle.graph_firing.proofs.nodes.starting.names_at.Goals as goal

pub loop-n-preserved : goal.loop-n-preserved
loop-n-preserved c = one_more (λ (a : Actor). a.name) (acting c.args.graph.now) c.loop-n.n c.acting_at.result.now c.loop-n.names.items c.push.new.self.items c.acting_at.ensures c.loop-n.invariant (c.in_ok-push.ensures.items ∙ ap (λ k. c.loop-n.names.items ++ k ∷ []) c.in_ok-copy_name.ensures)

pub returns : goal.returns
returns c = all_more (λ (a : Actor). a.name) c.level_by_actor.ensures.many c.args.graph.now c.args.places.now c.loop-n.n c.loop-n.names.items c.requires (omega arith) c.loop-n.invariant
