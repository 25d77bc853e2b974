use Rattle.std.proofs.Common.{◌≡◌, ℕ, ◌<◌, length, slice_index}
use Rattle.ready_heap.proofs.ranking.ranks_of.Given as goal

-- the numbers at the first so many places have theirs
abbrev pub invariant-loop-rank : goal.invariant-loop-rank
invariant-loop-rank l = (length l.ranks.items ≡ length l.numbers) × ((k : ℕ) → k < l.rank → slice_index l.ranks.items (slice_index l.numbers k) ≡ k)
