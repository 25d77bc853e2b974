use Rattle.std.proofs.Common.{ℕ, ◌<◌, ◌≤◌, slice_index}
use Rattle.job_compiler.proofs.ranking.count_of.Given as goal

abbrev pub invariant-loop-home : goal.invariant-loop-home
invariant-loop-home l = record {
  below : (m : ℕ) → m < l.home-index → slice_index l.homes m < l.count;
  least : (home : ℕ) → home < l.count → (m : ℕ) × (m < l.home-index) × (home ≤ slice_index l.homes m);
}
