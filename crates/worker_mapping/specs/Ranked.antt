-- The nodes in the order of their ranks.
use Rattle.std.specs.Prelude.{◌≡◌, ℕ, ◌<◌, List, Contains, length, slice_index, All}
use Rattle.std.specs.List.Sorted.{IsNonDecreasingBy}

-- every node with its rank, by rank upwards
pub record IsByRank (ranks : List ℕ) (order : List (ℕ × ℕ)) : Type 0 where
  pub long : length order ≡ length ranks
  pub every : (n : ℕ) → n < length ranks → Contains order (slice_index ranks n, n)
  pub each : All (λ e. (e.1 < length ranks) × (e.0 ≡ slice_index ranks e.1)) order
  pub rising : IsNonDecreasingBy (λ e. e.0) order
