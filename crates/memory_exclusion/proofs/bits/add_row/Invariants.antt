use Rattle.std.proofs.Common.{◌*◌}
use Rattle.memory_exclusion.proofs.Words.{RowSoFar}
use Rattle.memory_exclusion.proofs.bits.add_row.Given as goal

abbrev pub invariant-loop-k : goal.invariant-loop-k
invariant-loop-k l = RowSoFar l.initial.words l.words (l.row * l.width) (l.other * l.width) l.k
