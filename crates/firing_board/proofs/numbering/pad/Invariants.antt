use Rattle.std.proofs.Common.{◌≡◌, ◌+◌, ◌-◌, ℕ, length, slice_index_or}
use Rattle.firing_board.proofs.numbering.pad.Given as goal

abbrev pub invariant-loop-numbers : goal.invariant-loop-numbers
invariant-loop-numbers l =
    (k : ℕ) → slice_index_or l.numbers.items k 0 ≡ slice_index_or l.initial.numbers.items k 0

abbrev pub decreases-loop-numbers : goal.decreases-loop-numbers
decreases-loop-numbers l = l.row + 1 - length l.numbers.items
