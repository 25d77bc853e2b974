use Rattle.std.proofs.Common.{ℕ, ◌<◌}
use Rattle.std.specs.Prelude.{slice_index_or}
use Rattle.ready_heap.specs.declared.ranking.Row.{Row}
use Rattle.ready_heap.proofs.ranking.start_from.Given as goal

abbrev pub invariant-loop-rank : goal.invariant-loop-rank
invariant-loop-rank l = (r : ℕ) (d : Row) → r < l.rank → (slice_index_or l.rows r d).group < l.group
