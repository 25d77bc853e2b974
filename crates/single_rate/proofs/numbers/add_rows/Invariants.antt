use Rattle.std.proofs.Common.{◌≡◌, ◌-◌, ℕ, [], length, slice_index_or}
use Rattle.sdf_level.specs.Lists.{lists_of}
use Rattle.single_rate.proofs.numbers.add_rows.Given as goal

abbrev pub invariant-loop-alloc : goal.invariant-loop-alloc
invariant-loop-alloc l = (r : ℕ) → slice_index_or (lists_of l.rows.items) r [] ≡ slice_index_or (lists_of l.initial.rows.items) r []

abbrev pub decreases-loop-alloc : goal.decreases-loop-alloc
decreases-loop-alloc l = l.count - length l.rows.items
