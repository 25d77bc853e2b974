-- What a node of a single-rate graph costs.
use Rattle.std.specs.Prelude.{◌≡◌, ℕ, ◌+◌, ◌<◌, ◌==◌, ◌||◌, List, length, map, filter, slice_index, sum_by}
use Rattle.sdf_level.specs.declared.single_rate.Edge.{Edge}

-- the tail and the head of each edge
abbrev pub pairs_of : List Edge → List (ℕ × ℕ)
pairs_of edges = map (λ (e : Edge). (e.tail, e.head)) edges

-- 1 and the sizes of all edges that leave it or lead to it
abbrev pub cost_of : List Edge → ℕ → ℕ
cost_of edges n = 1 + sum_by (λ (e : Edge). e.size) (filter (λ (e : Edge). e.tail == n || e.head == n) edges)

-- the cost of each node
pub record AreCosts (nodes : ℕ) (edges : List Edge) (costs : List ℕ) : Type 0 where
  pub one_each : length costs ≡ nodes
  pub each : (n : ℕ) → n < nodes → slice_index costs n ≡ cost_of edges n
