-- The edges by the nodes that they leave.
use Rattle.std.specs.Prelude.{◌≡◌, ℕ, ◌<◌, ◌≤◌, List, length, slice_index}

abbrev pub AreBelow : ℕ → ℕ → Type 0
AreBelow count number = number < count

-- for each node an edge at most, and for each of so many edges an earlier one at most; an edge stands as one more than its
-- number, and none as 0
pub record AreLeaving (nodes count : ℕ) (first next : List ℕ) : Type 0 where
  pub one_each : length first ≡ nodes
  pub there : (n : ℕ) → slice_index first n ≤ count
  pub next_each : length next ≡ count
  pub earlier : (e : ℕ) → slice_index next e ≤ e
