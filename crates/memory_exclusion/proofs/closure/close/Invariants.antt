use Rattle.memory_exclusion.proofs.Closing.{ClosedSoFar}
use Rattle.memory_exclusion.proofs.closure.close.Given as goal

abbrev pub invariant-loop-ranked : goal.invariant-loop-ranked
invariant-loop-ranked l = ClosedSoFar l.edges l.order l.width l.rows l.ranked-index
