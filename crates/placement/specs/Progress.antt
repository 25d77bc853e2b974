-- How far a placing has come, and one step of it.
use Rattle.std.specs.Prelude.{◌≡◌, ℕ, ◌*◌, ◌/◌, ◌^◌, ◌<◌, ◌≤◌, ◌⊎◌, ◌∷◌, [], List, None, Some, IfSome, max, length, set, take, slice_index, sum_by, All, Any, IsPermutation}
use Rattle.placement_checker.specs.Placed.{end_of, Fits}
use Rattle.placement.specs.Placing.{in_order, all_in, IsInOrder, IsOpenTo, IsLast, StandsAt}
use Rattle.placement.specs.declared.gap.Placed.{Placed}
use Rattle.placement.specs.declared.progress.Progress.{Progress}

-- the buffers that are placed
abbrev pub placed_in : Progress → List Placed
placed_in p = all_in p.placed

-- p is the buffer at one of the first i places of the order
pub record IsPlaced (sizes order offsets : List ℕ) (i : ℕ) (p : Placed) : Type 0 where
  pub place : ℕ
  pub before : place < i
  pub is : slice_index order place ≡ p.number
  pub begins : p.offset ≡ slice_index offsets p.number
  pub ends : p.end ≡ end_of sizes offsets p.number

-- the first i buffers of the order have their offsets
pub record PlacedSoFar (sizes : List ℕ) (X : ℕ → ℕ → Type 0) (order : List ℕ) (i : ℕ) (placed : List Placed) (offsets : List ℕ) (height : ℕ) : Type 0 where
  pub long : length offsets ≡ length sizes
  pub known : All (IsPlaced sizes order offsets i) placed
  pub all : (k : ℕ) → k < i → Any (λ (p : Placed). p.number ≡ slice_index order k) placed
  pub above : (k : ℕ) → k < i → end_of sizes offsets (slice_index order k) ≤ height
  pub reached : (height ≡ 0) ⊎ ((k : ℕ) × (k < i) × (end_of sizes offsets (slice_index order k) ≡ height))
  pub low : height ≤ sum_by (λ (e : ℕ). slice_index sizes e) (take i order)
  pub fits : (k : ℕ) → k < i → Fits sizes X offsets (slice_index order k) (slice_index offsets (slice_index order k))
  pub least : (k lower : ℕ) → k < i → lower < slice_index offsets (slice_index order k) → Fits sizes X offsets (slice_index order k) lower → ⊥

-- what a search of offsets goes by: the buffers by their offsets, the rows, and the buffer that was placed last
pub record IsKept (p : Progress) : Type 0 where
  pub small : IsInOrder p.placed.small
  pub large : IsInOrder p.placed.large
  pub few : length p.row.items < 2 ^ 32
  pub rows : length p.row.items ≡ length p.before.row.items
  pub told : IfSome p.before.buffer (λ q. (q.number / 64 < length p.row.items) × (q.offset < q.end))
  pub last : IfSome p.before.buffer (IsLast p.before.row.items (placed_in p))

-- the first i buffers of the order are placed, of so many that an exclusion tells of
pub record HasPlaced (sizes : List ℕ) (X : ℕ → ℕ → Type 0) (range : ℕ) (order : List ℕ) (i : ℕ) (p : Progress) : Type 0 where
  pub so_far : PlacedSoFar sizes X order i (placed_in p) p.offsets.items p.height
  pub kept : IsKept p
  pub wide : range ≤ 64 * length p.row.items

-- no buffer is placed of so many, and a row has so many words
pub record IsEmpty (count words : ℕ) (p : Progress) : Type 0 where
  pub long : length p.offsets.items ≡ count
  pub small : in_order p.placed.small ≡ []
  pub large : in_order p.placed.large ≡ []
  pub small_order : IsInOrder p.placed.small
  pub large_order : IsInOrder p.placed.large
  pub row : length p.row.items ≡ words
  pub last_row : length p.before.row.items ≡ words
  pub last : p.before.buffer ≡ None
  pub height : p.height ≡ 0

-- the buffer with this number, whose row is written, can be placed
pub record CanPlace (sizes : List ℕ) (number : ℕ) (p : Progress) : Type 0 where
  pub there : number < length sizes
  pub filled : 1 ≤ slice_index sizes number
  pub long : length p.offsets.items ≡ length sizes
  pub small : IsOpenTo (length p.row.items) (slice_index sizes number) (in_order p.placed.small)
  pub large : IsOpenTo (length p.row.items) (slice_index sizes number) (in_order p.placed.large)
  pub standing : All (StandsAt p.offsets.items sizes) (placed_in p)
  pub kept : IsKept p

-- p' has one buffer more than p, which was placed last
pub record Keeps (buffer : Placed) (p p' : Progress) : Type 0 where
  pub same : IsPermutation (buffer ∷ placed_in p) (placed_in p')
  pub small : IsInOrder p'.placed.small
  pub large : IsInOrder p'.placed.large
  pub offsets : p'.offsets.items ≡ set p.offsets.items buffer.number buffer.offset
  pub height : p'.height ≡ max p.height buffer.end
  pub row : p'.row.items ≡ p.before.row.items
  pub last_row : p'.before.row.items ≡ p.row.items
  pub last : p'.before.buffer ≡ Some buffer
