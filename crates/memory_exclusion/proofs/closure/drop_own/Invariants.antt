use Rattle.memory_exclusion.proofs.Closing.{DroppedSoFar}
use Rattle.memory_exclusion.proofs.closure.drop_own.Given as goal

abbrev pub invariant-loop-e : goal.invariant-loop-e
invariant-loop-e l = DroppedSoFar l.edges l.width l.initial.rows l.rows l.e
