use Rattle.std.proofs.Common.{◌++◌, ◌∷◌, [], ap, ◌∙◌, arith}
use Rattle.param_resolver.specs.Numbering.{acting}
use Rattle.graph_firing.specs.Nodes.Parts.{kind_of_actor}
use Rattle.job_preparing.proofs.ActingPlaces.{one_more, all_more}
use Rattle.graph_firing.proofs.nodes.starting.kinds_at.Goals as goal

pub loop-n-preserved : goal.loop-n-preserved
loop-n-preserved c = one_more kind_of_actor (acting c.args.graph.now) c.loop-n.n c.acting_at.result.now c.loop-n.kinds.items c.push.new.self.items c.acting_at.ensures c.loop-n.invariant (c.in_ok-push.ensures.items ∙ ap (λ k. c.loop-n.kinds.items ++ k ∷ []) c.kind_of.ensures)

pub returns : goal.returns
returns c = c.new.ensures ∙ all_more kind_of_actor c.level_by_actor.ensures.many c.args.graph.now c.args.places.now c.loop-n.n c.loop-n.kinds.items c.requires (omega arith) c.loop-n.invariant
