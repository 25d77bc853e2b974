use Rattle.std.proofs.Common.{◌≡◌, ℕ, ◌<◌, ◌≤◌, length}
use Rattle.std.specs.Prelude.{slice_index_or}
use Rattle.ready_heap.specs.declared.ranking.Row.{Row}
use Rattle.ready_heap.specs.Ranks.{AreStartsIn}
use Rattle.ready_heap.proofs.ranking.starts_of.Given as goal

abbrev pub invariant-loop-group : goal.invariant-loop-group
invariant-loop-group l =
    (length l.starts.items ≡ l.group)
    × (l.start ≤ length l.rows)
    × ((r : ℕ) (d : Row) → r < l.start → (slice_index_or l.rows r d).group < l.group)
    × AreStartsIn l.rows l.starts.items
