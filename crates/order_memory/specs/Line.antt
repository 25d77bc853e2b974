-- One order of all nodes of a graph, in which each node stands behind those that its edges come from.
use Rattle.std.specs.Prelude.{◌≡◌, ℕ, ◌<◌, ◌≤◌, List, All, Contains, length, take, slice_index}

-- it doesn't stand earlier, and the tails of all edges that lead to it do
pub record IsOpen (nodes : ℕ) (edges : List (ℕ × ℕ)) (earlier : List ℕ) (n : ℕ) : Type 0 where
  pub there : n < nodes
  pub new : Contains earlier n → ⊥
  pub tails : All (λ e. e.1 ≡ n → Contains earlier e.0) edges

-- the least such node
pub record IsLeastOpen (nodes : ℕ) (edges : List (ℕ × ℕ)) (earlier : List ℕ) (n : ℕ) : Type 0 where
  pub is_open : IsOpen nodes edges earlier n
  pub least : (m : ℕ) → IsOpen nodes edges earlier m → n ≤ m

-- all nodes, and in every place the least of those whose edges' tails all stand earlier
pub record IsLine (nodes : ℕ) (edges : List (ℕ × ℕ)) (line : List ℕ) : Type 0 where
  pub all : (n : ℕ) → n < nodes → Contains line n
  pub each : (i : ℕ) → i < length line → IsLeastOpen nodes edges (take i line) (slice_index line i)
