use Rattle.std.proofs.Common.{◌≡◌, ◌++◌, map, take}
use Rattle.firing_laws.specs.Moving.{moved_row}
use Rattle.unfold_rates.proofs.rows.push_moved.Given as goal

abbrev pub invariant-loop-row : goal.invariant-loop-row
invariant-loop-row l = l.trace.items ≡ l.initial.trace.items ++ map (moved_row l.from l.to) (take l.row-index l.rows)
