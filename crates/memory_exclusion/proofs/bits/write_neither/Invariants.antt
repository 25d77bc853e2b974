use Rattle.memory_exclusion.proofs.Neither.{WrittenSoFar}
use Rattle.memory_exclusion.proofs.bits.write_neither.Given as goal

abbrev pub invariant-loop-k : goal.invariant-loop-k
invariant-loop-k l = WrittenSoFar l.one l.other l.one_start l.other_start l.row l.k
