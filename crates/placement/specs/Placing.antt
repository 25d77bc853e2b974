-- The order of placing, the buffers placed so far, and the search for the next one's offset.
use Rattle.std.specs.Prelude.{◌≡◌, ℕ, ◌+◌, ◌-◌, ◌/◌, ◌^◌, ◌<◌, ◌≤◌, ◌⊎◌, List, ◌++◌, reverse, length, slice_index, slice_index_or, sum, sum_by, All, Any}
use Rattle.std.specs.List.Sorted.{IsNonDecreasingBy}
use Rattle.placement_checker.specs.Placed.{StandsEarlier}
use Rattle.placement_checker.specs.Rows.{RowHas}
use Rattle.placement.specs.declared.by_offset.ByOffset.{ByOffset}
use Rattle.placement.specs.declared.gap.Buffers.{Buffers}
use Rattle.placement.specs.declared.gap.Placed.{Placed}

-- the buffers before the cut and behind it
abbrev pub in_order : ByOffset → List Placed
in_order buffers = buffers.low.items ++ reverse buffers.high.items

-- the small ones and the large ones
abbrev pub all_in : Buffers → List Placed
all_in buffers = in_order buffers.small ++ in_order buffers.large

-- all numbers of buffers, each before those that it stands earlier than
pub record IsPlacingOrder (sizes order : List ℕ) : Type 0 where
  pub inside : (i : ℕ) → i < length order → slice_index order i < length sizes
  pub all : (e : ℕ) → e < length sizes → (i : ℕ) × (i < length order) × (slice_index order i ≡ e)
  pub earlier : (i j : ℕ) → i < j → j < length order → StandsEarlier sizes (slice_index order i) (slice_index order j)
  pub total : sum_by (λ e. slice_index sizes e) order ≡ sum sizes

-- by their offsets, upwards
abbrev pub Rise : List Placed → Type 0
Rise placed = IsNonDecreasingBy (λ (p : Placed). p.offset) placed

-- a buffer of this size can be placed beside these, of which a row of so many words tells
pub record IsOpenTo (words size : ℕ) (placed : List Placed) : Type 0 where
  pub rising : Rise placed
  pub filled : All (λ (p : Placed). p.offset < p.end) placed
  pub told : All (λ (p : Placed). p.number / 64 < words) placed
  pub room : All (λ (p : Placed). p.end + size < 2 ^ 32) placed

-- the number of p is one of these, and a buffer of this size at this offset would overlap it
abbrev pub Blocks : (ℕ → Type 0) → ℕ → ℕ → Placed → Type 0
Blocks Others size offset p = Others p.number × (p.offset < offset + size) × (offset < p.end)

-- at each place a cell at or before which the buffer there ends, and all before it
pub record Reaches (placed : List Placed) (reach : List ℕ) : Type 0 where
  pub long : length reach ≡ length placed
  pub rising : IsNonDecreasingBy (λ (cell : ℕ). cell) reach
  pub ends : (k : ℕ) (d : Placed) → k < length placed → (slice_index_or placed k d).end ≤ slice_index reach k

-- so is what stands beside the buffers before the cut
abbrev pub HasReach : ByOffset → Type 0
HasReach buffers = Reaches buffers.low.items buffers.reach.items

-- by their offsets, and beside those before the cut how far they reach
pub record IsInOrder (buffers : ByOffset) : Type 0 where
  pub rising : Rise (in_order buffers)
  pub reach : HasReach buffers

-- of those placed before this place the others end at or below the offset
abbrev pub ArePassed : (ℕ → Type 0) → List Placed → ℕ → ℕ → Type 0
ArePassed Others placed i offset = (k : ℕ) (d : Placed) → k < i → Others (slice_index_or placed k d).number → (slice_index_or placed k d).end ≤ offset

-- The next offset to look at behind p: the end of p, which is one of the others and ends behind the offset; or the offset itself, where
-- p isn't so.
abbrev pub IsBehind : (ℕ → Type 0) → Placed → ℕ → ℕ → Type 0
IsBehind Others p offset next =
    (Others p.number × (offset < p.end) × (next ≡ p.end))
    ⊎ ((Others p.number → p.end ≤ offset) × (next ≡ offset))

-- From `start` on a search has come to this offset, before this place: up to there some of the others is in the way. It is free where it is below the bound.
pub record IsGap (Others : ℕ → Type 0) (size : ℕ) (placed : List Placed) (start bound place offset : ℕ) : Type 0 where
  pub passed : ArePassed Others placed place offset
  pub free : offset < bound → All (λ (p : Placed). Blocks Others size offset p → ⊥) placed
  pub blocked : (lower : ℕ) → start ≤ lower → lower < offset → Any (Blocks Others size lower) placed
  pub up : start ≤ offset
  pub room : offset + size < 2 ^ 32

-- none of the others is in the way at this offset
abbrev pub IsFree : (ℕ → Type 0) → ℕ → List Placed → ℕ → Type 0
IsFree Others size placed offset = All (λ (p : Placed). Blocks Others size offset p → ⊥) placed

-- where a search from `start` on ends: up to there some of the others is in the way, and there none is, or it isn't below the bound
pub record IsFound (Others : ℕ → Type 0) (size : ℕ) (placed : List Placed) (start bound offset : ℕ) : Type 0 where
  pub free : offset < bound → IsFree Others size placed offset
  pub blocked : (lower : ℕ) → start ≤ lower → lower < offset → Any (Blocks Others size lower) placed
  pub room : offset + size < 2 ^ 32

-- at each offset below this one at which a buffer of the size would have one of these cells, some of the others is in the way
abbrev pub IsShut : (ℕ → Type 0) → ℕ → List Placed → ℕ → ℕ → ℕ → Type 0
IsShut Others size placed first end offset = (lower : ℕ) → lower < offset → lower < end → first < lower + size → Any (Blocks Others size lower) placed

-- at this offset none of the others is in the way, and at each lower one some is
pub record IsLeast (Others : ℕ → Type 0) (size : ℕ) (placed : List Placed) (offset : ℕ) : Type 0 where
  pub free : All (λ (p : Placed). Blocks Others size offset p → ⊥) placed
  pub least : (lower : ℕ) → lower < offset → Any (Blocks Others size lower) placed
  pub room : offset + size < 2 ^ 32

-- the buffer that was placed last, of whose others this row told
pub record IsLast (row : List ℕ) (placed : List Placed) (last : Placed) : Type 0 where
  pub there : Any (λ (p : Placed). p ≡ last) placed
  pub filled : last.offset < last.end
  pub blocked : (lower : ℕ) → lower < last.offset → Any (Blocks (RowHas row) (last.end - last.offset) lower) placed

-- the offset of p stands at its number, and it has as many cells as are told there
pub record StandsAt (offsets sizes : List ℕ) (p : Placed) : Type 0 where
  pub there : p.number < length offsets
  pub begins : p.offset ≡ slice_index offsets p.number
  pub ends : p.end ≡ slice_index offsets p.number + slice_index sizes p.number
