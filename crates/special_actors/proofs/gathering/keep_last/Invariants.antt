use Rattle.special_actors.proofs.Gathered.{KeptFrom}
use Rattle.special_actors.proofs.gathering.keep_last.Given as goal

abbrev pub invariant-loop-left : goal.invariant-loop-left
invariant-loop-left l = KeptFrom l.fn.frame l.frame l.left l.end

abbrev pub decreases-loop-left : goal.decreases-loop-left
decreases-loop-left l = l.left
