use Rattle.special_actors.proofs.Spread.{CutTo}
use Rattle.special_actors.proofs.spreading.cut.Given as goal

abbrev pub invariant-loop-to : goal.invariant-loop-to
invariant-loop-to l = CutTo l.fn.frame l.frame l.to l.place
