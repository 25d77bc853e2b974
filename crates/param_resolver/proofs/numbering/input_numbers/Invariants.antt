use Rattle.param_resolver.proofs.Counted.{CountsInputs}
use Rattle.param_resolver.proofs.numbering.input_numbers.Given as goal

abbrev pub invariant-loop-place : goal.invariant-loop-place
invariant-loop-place l = CountsInputs l.graph l.place l.next l.numbers.items
