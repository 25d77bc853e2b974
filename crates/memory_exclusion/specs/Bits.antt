-- Rows of bits in one list of words, 64 bits to a word, `width` words to a row.
use Rattle.std.specs.Prelude.{◌≡◌, ℕ, ◌+◌, ◌*◌, ◌/◌, ◌%◌, ◌<◌, ◌⊎◌, ◌↔◌, List, length, slice_index}
use Rattle.std.specs.Int.{bit_at}
use Rattle.placement_checker.specs.Rows.{RowHas}

-- this row has this bit
abbrev pub HasBit : List ℕ → ℕ → ℕ → ℕ → Type 0
HasBit words width row bit = bit_at (slice_index words (row * width + bit / 64)) (bit % 64) ≡ 1

-- one row has a bit more
pub record AddsBit (width : ℕ) (old new : List ℕ) (row bit : ℕ) : Type 0 where
  pub long : length new ≡ length old
  pub kept : (r b : ℕ) → HasBit old width r b → HasBit new width r b
  pub added : HasBit new width row bit
  pub only : (r b : ℕ) → b < 64 * width → HasBit new width r b → HasBit old width r b ⊎ ((r ≡ row) × (b ≡ bit))

-- one row has the bits of another too
pub record AddsRow (width : ℕ) (old new : List ℕ) (row other : ℕ) : Type 0 where
  pub long : length new ≡ length old
  pub kept : (r b : ℕ) → HasBit old width r b → HasBit new width r b
  pub added : (b : ℕ) → b < 64 * width → HasBit old width other b → HasBit new width row b
  pub only : (r b : ℕ) → b < 64 * width → HasBit new width r b → HasBit old width r b ⊎ ((r ≡ row) × HasBit old width other b)

-- one row has a bit less
pub record DropsBit (width : ℕ) (old new : List ℕ) (row bit : ℕ) : Type 0 where
  pub long : length new ≡ length old
  pub kept : (r b : ℕ) → b < 64 * width → HasBit old width r b → ((r ≡ row) × (b ≡ bit) → ⊥) → HasBit new width r b
  pub gone : HasBit new width row bit → ⊥
  pub only : (r b : ℕ) → HasBit new width r b → HasBit old width r b

-- a row has, of the first bits, those that neither of two rows has
abbrev pub HasNeither : ℕ → List ℕ → ℕ → List ℕ → ℕ → List ℕ → Type 0
HasNeither width one one_row other other_row row =
    (b : ℕ) → b < 64 * width → (RowHas row b ↔ ((HasBit one width one_row b → ⊥) × (HasBit other width other_row b → ⊥)))
