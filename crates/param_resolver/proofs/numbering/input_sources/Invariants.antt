use Rattle.std.proofs.Common.{◌≡◌, map}
use Rattle.std.specs.Prelude.{slice_index}
use Rattle.std.specs.List.{filter, range_with_len}
use Rattle.param_resolver.proofs.Counted.{unfed}
use Rattle.param_resolver.proofs.numbering.input_sources.Given as goal

abbrev pub invariant-loop-place : goal.invariant-loop-place
invariant-loop-place l = l.rates.items ≡ map (λ j. slice_index l.taken j) (filter (unfed l.graph) (range_with_len 0 l.place))
