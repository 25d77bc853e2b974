use Rattle.std.proofs.Common.{◌≡◌, ◌-◌, ℕ, length, slice_index}
use Rattle.single_rate.proofs.numbers.lengthen.Given as goal

abbrev pub invariant-loop-row : goal.invariant-loop-row
invariant-loop-row l = (c : ℕ) → slice_index l.row.items c ≡ slice_index l.initial.row.items c

abbrev pub decreases-loop-row : goal.decreases-loop-row
decreases-loop-row l = l.count - length l.row.items
