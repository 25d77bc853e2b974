use Rattle.placement_checker.specs.Rows.{RowHas}
use Rattle.placement.specs.Placing.{in_order}
use Rattle.placement.proofs.Sweep.{SearchSoFar}
use Rattle.placement.proofs.gap.search_from.Given as goal

abbrev pub invariant-loop-k : goal.invariant-loop-k
invariant-loop-k l = SearchSoFar (RowHas l.sought.row.now) l.sought.size (in_order l.placed.small) (in_order l.placed.large) l.fn.start.offset l.from.place l.k l.from.offset
