use Rattle.placement_checker.specs.Rows.{RowHas}
use Rattle.placement.specs.Placing.{in_order}
use Rattle.placement.proofs.Sweep.{OffsetSoFar}
use Rattle.placement.proofs.gap.next_gap.Given as goal

abbrev pub invariant-loop-k : goal.invariant-loop-k
invariant-loop-k l = OffsetSoFar (RowHas l.sought.row.now) l.sought.size (in_order l.placed) l.fn.from.offset l.k l.offset
