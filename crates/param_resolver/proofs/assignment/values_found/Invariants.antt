use Rattle.std.proofs.Common.{◌≡◌, map, take}
use Rattle.param_resolver.specs.Settled.{value_found}
use Rattle.param_resolver.proofs.assignment.values_found.Given as goal

abbrev pub invariant-loop-outcome : goal.invariant-loop-outcome
invariant-loop-outcome l = l.values.items ≡ map value_found (take l.outcome-index l.found)
