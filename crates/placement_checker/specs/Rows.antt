-- Rows of bits, 64 bits to a word, the lowest first.
use Rattle.std.specs.Prelude.{◌≡◌, ◌≢◌, ℕ, ◌/◌, ◌%◌, ◌<◌, ◌↔◌, List, slice_index}
use Rattle.std.specs.Int.{bit_at}
use Rattle.placement_checker.specs.Placed.{Relates}

-- the row has the bit
abbrev pub RowHas : List ℕ → ℕ → Type 0
RowHas row bit = bit_at (slice_index row (bit / 64)) (bit % 64) ≡ 1

-- of the buffers below the range the row has those, other than buffer e, that X relates to e; it may have e, and any bit from the range on
abbrev pub IsRowOf : (ℕ → ℕ → Type 0) → ℕ → ℕ → List ℕ → Type 0
IsRowOf X range e row = (f : ℕ) → f < range → f ≢ e → (RowHas row f ↔ Relates X e f)
