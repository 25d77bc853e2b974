-- What makes a placement invalid, pair by pair.
use Rattle.std.specs.Prelude.{◌≡◌, ℕ, ◌<◌, ◌⊎◌, List, length, slice_index}
use Rattle.placement_checker.specs.Placed.{end_of, Overlap}

-- e = f: buffer e ends above the height; e < f: they exclude each other and overlap
abbrev pub Clashes : List ℕ → (ℕ → ℕ → Type 0) → List ℕ → ℕ → ℕ → ℕ → Type 0
Clashes sizes X offsets height e f =
    ((e ≡ f) × (height < end_of sizes offsets e))
    ⊎ ((e < f) × X e f × Overlap (slice_index offsets e) (slice_index sizes e) (slice_index offsets f) (slice_index sizes f))

-- the pair (e, f) stands before the pair (g, h)
abbrev pub StandsBefore : ℕ → ℕ → ℕ → ℕ → Type 0
StandsBefore e f g h = (e < g) ⊎ ((e ≡ g) × (f < h))

-- (e, f) is the first pair that clashes
pub record IsFirstClash (sizes : List ℕ) (X : ℕ → ℕ → Type 0) (offsets : List ℕ) (height e f : ℕ) : Type 0 where
  pub inside : f < length sizes
  pub clash : Clashes sizes X offsets height e f
  pub first : (g h : ℕ) → h < length sizes → StandsBefore g h e f → Clashes sizes X offsets height g h → ⊥
