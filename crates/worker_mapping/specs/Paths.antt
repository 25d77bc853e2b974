-- The paths of a graph: why a priority is called the heaviest path from its node.
use Rattle.std.specs.Prelude.{◌≡◌, ℕ, ◌+◌, ◌≤◌, List, [], ◌∷◌, Contains, slice_index, ⊤}
use Rattle.worker_mapping.specs.Graph.{CostedGraph}

-- an edge leads from each node to the next
abbrev pub IsPath : List (ℕ × ℕ) → List ℕ → Type 0
IsPath edges [] = ⊤
IsPath edges (n ∷ []) = ⊤
IsPath edges (n ∷ m ∷ path) = Contains edges (n, m) × IsPath edges (m ∷ path)

abbrev pub cost_along : List ℕ → List ℕ → ℕ
cost_along costs [] = 0
cost_along costs (n ∷ path) = slice_index costs n + cost_along costs path

-- the cost of the heaviest path that begins at a node
pub record IsHeaviestFrom (graph : CostedGraph) (n cost : ℕ) : Type 0 where
  pub rest : List ℕ
  pub is_path : IsPath graph.edges (n ∷ rest)
  pub reached : cost_along graph.costs (n ∷ rest) ≡ cost
  pub greatest : (other : List ℕ) → IsPath graph.edges (n ∷ other) → cost_along graph.costs (n ∷ other) ≤ cost
