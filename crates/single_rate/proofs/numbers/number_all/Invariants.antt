use Rattle.std.proofs.Common.{◌≤◌, length}
use Rattle.sdf_level.specs.Lists.{lists_of}
use Rattle.single_rate.proofs.NumberRows.{NumberedFrom}
use Rattle.single_rate.proofs.numbers.number_all.Given as goal

abbrev pub invariant-loop-left : goal.invariant-loop-left
invariant-loop-left l = (l.left ≤ length l.nodes) × NumberedFrom l.nodes (lists_of l.rows.items) l.left

abbrev pub decreases-loop-left : goal.decreases-loop-left
decreases-loop-left l = l.left
