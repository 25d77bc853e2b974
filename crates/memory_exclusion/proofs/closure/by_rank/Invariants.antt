use Rattle.std.proofs.Common.{◌≡◌, ℕ, ◌<◌, length, get_or, slice_index}
use Rattle.memory_exclusion.specs.Paths.{tail_of}
use Rattle.memory_exclusion.proofs.closure.by_rank.Given as goal

-- the edges so far, in the order of their numbers
abbrev pub invariant-loop-e : goal.invariant-loop-e
invariant-loop-e l = record {
  long : length l.order.items ≡ l.e;
  each : (e : ℕ) → e < l.e → get_or l.order.items e (0, 0) ≡ (slice_index l.ranks (tail_of l.edges e), e);
}
