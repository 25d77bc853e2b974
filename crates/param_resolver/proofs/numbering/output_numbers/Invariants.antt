use Rattle.param_resolver.proofs.Counted.{CountsOutputs}
use Rattle.param_resolver.proofs.numbering.output_numbers.Given as goal

abbrev pub invariant-loop-actor : goal.invariant-loop-actor
invariant-loop-actor l = CountsOutputs l.graphs l.graph l.actor-index l.next l.numbers.items
