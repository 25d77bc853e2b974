use Rattle.std.proofs.Common.{ℕ, ◌<◌, slice_index}
use Rattle.job_calls.proofs.heaps.are_below.Given as goal

abbrev pub invariant-loop-n : goal.invariant-loop-n
invariant-loop-n l = (k : ℕ) → k < l.n → slice_index l.numbers k < l.bound
