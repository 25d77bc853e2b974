use Rattle.std.proofs.Common.{◌≡◌, ℕ, ◌+◌, ◌<◌, ◌≤◌, drop, length, slice_index}
use Rattle.sdf_level.specs.Invariants.{how_many}
use Rattle.sdf_level.specs.Run.{is_into_actor}
use Rattle.job_compiler.proofs.ends.links_by_head.Given as goal

abbrev pub invariant-loop-link : goal.invariant-loop-link
invariant-loop-link l = record {
  each : (a : ℕ) → a < length l.counts.items → slice_index l.counts.items a + how_many (is_into_actor a) (drop l.link-index l.links) ≡ how_many (is_into_actor a) l.links;
  few : (a : ℕ) → slice_index l.counts.items a ≤ l.link-index;
}
