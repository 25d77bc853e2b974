use Rattle.std.proofs.Common.{◌≡◌, ℕ, ◌<◌, slice_index}
use Rattle.one_job.proofs.ready.have_home_zero.Given as goal

abbrev pub invariant-loop-home : goal.invariant-loop-home
invariant-loop-home l = (n : ℕ) → n < l.home-index → slice_index l.homes n ≡ 0
