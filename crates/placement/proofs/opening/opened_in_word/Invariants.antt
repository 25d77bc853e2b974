use Rattle.std.proofs.Common.{◌≡◌, ℕ, ◌+◌, ◌<◌, ◌≤◌, length, slice_index}
use Rattle.std.specs.Int.{bit_at}
use Rattle.placement_checker.specs.Rows.{RowHas}
use Rattle.placement.specs.Placing.{all_in, IsFree, IsShut}
use Rattle.placement.proofs.opening.opened_in_word.Given as goal

-- those whose bits are cleared are looked at
abbrev pub invariant-loop-left : goal.invariant-loop-left
invariant-loop-left l = record {
  least : l.least ≤ l.best;
  free : l.least < l.best → IsFree (RowHas l.sought.row.now) l.sought.size (all_in l.placed) l.least;
  shut : (bit : ℕ) → bit < 64 → l.first + bit < length l.spots.offsets.now → bit_at l.word bit ≡ 1 → (bit_at l.left bit ≡ 1 → ⊥) → IsShut (RowHas l.sought.row.now) l.sought.size (all_in l.placed) (slice_index l.spots.offsets.now (l.first + bit)) (slice_index l.spots.offsets.now (l.first + bit) + slice_index l.spots.sizes.now (l.first + bit)) l.least;
}

abbrev pub decreases-loop-left : goal.decreases-loop-left
decreases-loop-left l = l.left
