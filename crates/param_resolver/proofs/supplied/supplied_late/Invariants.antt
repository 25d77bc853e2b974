use Rattle.param_resolver.proofs.Supplying.{GivesLate}
use Rattle.param_resolver.proofs.supplied.supplied_late.Given as goal

abbrev pub invariant-loop-place : goal.invariant-loop-place
invariant-loop-place l = GivesLate l.params l.known l.chosen l.place l.chosen_before l.supplied.items
