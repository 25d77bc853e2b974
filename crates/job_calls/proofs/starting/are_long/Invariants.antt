use Rattle.std.proofs.Common.{◌≡◌, ℕ, ◌<◌, [], length, slice_index}
use Rattle.std.specs.Prelude.{slice_index_or}
use Rattle.job_calls.proofs.starting.are_long.Given as goal

abbrev pub invariant-loop-n : goal.invariant-loop-n
invariant-loop-n l = (k : ℕ) → k < l.n → length (slice_index_or l.lists k []) ≡ slice_index l.lens k
