use Rattle.std.proofs.Common.{◌≡◌, map, take}
use Rattle.param_resolver.specs.Numbering.{acting}
use Rattle.graph_firing.specs.Nodes.Parts.{kind_of_actor}
use Rattle.graph_firing.proofs.nodes.starting.kinds_at.Given as goal

abbrev pub invariant-loop-n : goal.invariant-loop-n
invariant-loop-n l = l.kinds.items ≡ map kind_of_actor (take l.n (acting l.graph))
