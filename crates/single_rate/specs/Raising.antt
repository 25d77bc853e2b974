-- How ranks are raised along edges until they are the longest paths: what the functions that do so keep.
use Rattle.std.specs.Prelude.{ℕ, ◌+◌, ◌-◌, ◌<◌, ◌≤◌, List, [], ◌∷◌, length, slice_index}
use Rattle.std.specs.List.{AllByRecursion}
use Rattle.sdf_level.specs.declared.single_rate.Edge.{Edge}
use Rattle.single_rate.specs.Ranks.{IsReached}

-- the edges go forward by tiers up to this one
pub record GoForward (edges : List Edge) (last : ℕ) : Type 0 where
  pub tier : ℕ → ℕ
  pub forward : AllByRecursion (λ e. tier e.tail < tier e.head) edges
  pub within : (n : ℕ) → tier n ≤ last

-- the edges' ends are below the count
abbrev pub EndsBelow : ℕ → List Edge → Type 0
EndsBelow count edges = AllByRecursion (λ e. (e.tail < count) × (e.head < count)) edges

-- each node is reached over a path of as many edges as its rank
abbrev pub AreReached : List Edge → List ℕ → Type 0
AreReached edges ranks = (n : ℕ) → n < length ranks → IsReached edges n (slice_index ranks n)

-- each head has a greater rank than its tail
abbrev pub AreSettled : List Edge → List ℕ → Type 0
AreSettled edges ranks = AllByRecursion (λ e. slice_index ranks e.tail < slice_index ranks e.head) edges

-- how far the ranks are below the last tier, in all
abbrev pub slack : ℕ → List ℕ → ℕ
slack last [] = 0
slack last (r ∷ ranks) = (last - r) + slack last ranks
