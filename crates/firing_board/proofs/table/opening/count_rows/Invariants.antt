use Rattle.std.proofs.Common.{◌≡◌, is_some, take}
use Rattle.std.specs.List.{count_by}
use Rattle.firing_board.proofs.table.opening.count_rows.Given as goal

abbrev pub invariant-loop-row : goal.invariant-loop-row
invariant-loop-row l = l.count ≡ count_by is_some (take l.row-index l.rows)
