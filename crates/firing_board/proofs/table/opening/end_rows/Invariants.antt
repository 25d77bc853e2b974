use Rattle.std.proofs.Common.{All}
use Rattle.firing_board.specs.Table.Slots.{IsUnlent}
use Rattle.firing_board.proofs.table.opening.end_rows.Given as goal

abbrev pub invariant-loop-slot : goal.invariant-loop-slot
invariant-loop-slot l = All IsUnlent l.rows.items

abbrev pub decreases-loop-slot : goal.decreases-loop-slot
decreases-loop-slot l = goal.left-loop-slot l
