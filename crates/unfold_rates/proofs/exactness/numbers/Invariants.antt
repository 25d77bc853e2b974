use Rattle.std.proofs.Common.{◌≡◌, take}
use Rattle.param_resolver.specs.Assignment.{numbers}
use Rattle.unfold_rates.proofs.exactness.numbers.Given as goal

abbrev pub invariant-loop-value : goal.invariant-loop-value
invariant-loop-value l = l.known.items ≡ numbers (take l.value-index l.values)
