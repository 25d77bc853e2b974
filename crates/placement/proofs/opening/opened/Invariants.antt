use Rattle.std.proofs.Common.{ℕ, ◌+◌, ◌/◌, ◌<◌, ◌≤◌, length, slice_index}
use Rattle.placement_checker.specs.Rows.{RowHas}
use Rattle.placement.specs.Placing.{all_in, IsFree, IsShut}
use Rattle.placement.proofs.opening.opened.Given as goal

-- those of the words so far are looked at
abbrev pub invariant-loop-k : goal.invariant-loop-k
invariant-loop-k l = record {
  least : l.least ≤ l.best;
  free : l.least < l.best → IsFree (RowHas l.sought.row.now) l.sought.size (all_in l.placed) l.least;
  shut : (e : ℕ) → e < length l.spots.offsets.now → e / 64 < l.k → RowHas l.other e → (RowHas l.sought.row.now e → ⊥) → IsShut (RowHas l.sought.row.now) l.sought.size (all_in l.placed) (slice_index l.spots.offsets.now e) (slice_index l.spots.offsets.now e + slice_index l.spots.sizes.now e) l.least;
}
