use Rattle.std.proofs.Common.{◌≡◌, ℕ, ◌+◌, ◌≤◌, ◌<◌, drop, length, slice_index}
use Rattle.job_compiler.specs.Ends.{ends_at}
use Rattle.job_compiler.proofs.ends.end_counts.Given as goal

abbrev pub invariant-loop-end : goal.invariant-loop-end
invariant-loop-end l = record {
  one_each : length l.counts.items ≡ l.nodes;
  each : (n : ℕ) → n < l.nodes → slice_index l.counts.items n + ends_at n (drop l.end-index l.ends) ≡ ends_at n l.ends;
  few : (n : ℕ) → slice_index l.counts.items n ≤ l.end-index;
}
