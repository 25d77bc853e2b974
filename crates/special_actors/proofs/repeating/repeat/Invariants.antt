use Rattle.special_actors.proofs.Spread.{RepeatedTo}
use Rattle.special_actors.proofs.repeating.repeat.Given as goal

abbrev pub invariant-loop-to : goal.invariant-loop-to
invariant-loop-to l = RepeatedTo l.fn.frame l.frame l.to l.place
