use Rattle.std.proofs.Common.{◌≡◌, map, take}
use Rattle.param_resolver.specs.Numbering.{acting}
use Rattle.pisdf_model.specs.declared.actor.Actor.{Actor}
use Rattle.graph_firing.proofs.nodes.starting.names_at.Given as goal

abbrev pub invariant-loop-n : goal.invariant-loop-n
invariant-loop-n l = l.names.items ≡ map (λ (a : Actor). a.name) (take l.n (acting l.graph))
