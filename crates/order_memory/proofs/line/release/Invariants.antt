use Rattle.std.proofs.Common.{◌≡◌, ℕ, ◌+◌, take, slice_index}
use Rattle.sdf_level.specs.Lists.{occurrences}
use Rattle.order_memory.proofs.line.release.Given as goal

abbrev pub invariant-loop-head : goal.invariant-loop-head
invariant-loop-head l = (n : ℕ) → slice_index l.waiting n + occurrences n (take l.head-index l.heads) ≡ slice_index l.initial.waiting n
