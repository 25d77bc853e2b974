use Rattle.param_resolver.proofs.Counted.{CountsActors}
use Rattle.param_resolver.proofs.numbering.actor_numbers.Given as goal

abbrev pub invariant-loop-actor : goal.invariant-loop-actor
invariant-loop-actor l = CountsActors l.graph l.actor-index l.next l.numbers.items
