-- Where buffers lie in one run of cells. Buffer e has `sizes` at e as its number of cells and begins at `offsets` at e; X says which two different buffers exclude each other, and is asked with the lesser number first.
use Rattle.std.specs.Prelude.{◌≡◌, ℕ, ◌+◌, ◌<◌, ◌≤◌, ◌⊎◌, List, length, slice_index}

-- the first cell after buffer e
abbrev pub end_of : List ℕ → List ℕ → ℕ → ℕ
end_of sizes offsets e = slice_index offsets e + slice_index sizes e

-- this cell lies in a buffer of this size at this offset
abbrev pub Covers : ℕ → ℕ → ℕ → Type 0
Covers offset size cell = (offset ≤ cell) × (cell < offset + size)

-- two buffers, of these sizes at these offsets, have a cell in common
pub record Overlap (offset size other_offset other_size : ℕ) : Type 0 where
  pub cell : ℕ
  pub in_one : Covers offset size cell
  pub in_other : Covers other_offset other_size cell

-- every buffer ends at or below the height, and two different buffers that exclude each other overlap in no cell
pub record Valid (sizes : List ℕ) (X : ℕ → ℕ → Type 0) (offsets : List ℕ) (height : ℕ) : Type 0 where
  pub within : (e : ℕ) → e < length sizes → end_of sizes offsets e ≤ height
  pub apart : (e f : ℕ) → e < f → f < length sizes → X e f → Overlap (slice_index offsets e) (slice_index sizes e) (slice_index offsets f) (slice_index sizes f) → ⊥

-- X relates two different buffers
abbrev pub Relates : (ℕ → ℕ → Type 0) → ℕ → ℕ → Type 0
Relates X e f = ((e < f) × X e f) ⊎ ((f < e) × X f e)

-- the order of placing: by size downwards, then by number
abbrev pub StandsEarlier : List ℕ → ℕ → ℕ → Type 0
StandsEarlier sizes e f = (slice_index sizes f < slice_index sizes e) ⊎ ((slice_index sizes e ≡ slice_index sizes f) × (e < f))

-- buffer e, at this offset, overlaps no earlier buffer that X relates to it
abbrev pub Fits : List ℕ → (ℕ → ℕ → Type 0) → List ℕ → ℕ → ℕ → Type 0
Fits sizes X offsets e offset = (f : ℕ) → f < length sizes → StandsEarlier sizes f e → Relates X e f → Overlap offset (slice_index sizes e) (slice_index offsets f) (slice_index sizes f) → ⊥

-- each buffer fits where it is and at no lower offset, and the height is the greatest end, or 0
pub record Tight (sizes : List ℕ) (X : ℕ → ℕ → Type 0) (offsets : List ℕ) (height : ℕ) : Type 0 where
  pub fits : (e : ℕ) → e < length sizes → Fits sizes X offsets e (slice_index offsets e)
  pub least : (e lower : ℕ) → e < length sizes → lower < slice_index offsets e → Fits sizes X offsets e lower → ⊥
  pub above : (e : ℕ) → e < length sizes → end_of sizes offsets e ≤ height
  pub reached : (height ≡ 0) ⊎ ((e : ℕ) × (e < length sizes) × (end_of sizes offsets e ≡ height))
