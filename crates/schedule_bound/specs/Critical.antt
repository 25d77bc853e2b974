-- The critical path.
use Rattle.std.specs.Prelude.{◌≡◌, ℕ, ◌+◌, ◌<◌, ◌≤◌, ◌⊎◌, List, [], ◌∷◌, Contains, Option, None, MatchOption, length, slice_index, slice_index_or, ⊤}
use Rattle.std.specs.List.{AllByRecursion}
use Rattle.worker_mapping.specs.Graph.{CostedGraph}
use Rattle.worker_mapping.specs.Paths.{IsPath, cost_along}

-- nodes, joined by edges
pub record IsPathOf (graph : CostedGraph) (path : List ℕ) : Type 0 where
  pub there : AllByRecursion (λ n. n < graph.nodes) path
  pub joined : IsPath graph.edges path

-- it has the lesser number at the first place where they differ, or it ends there, or they don't differ
abbrev pub ComesFirst : List ℕ → List ℕ → Type 0
ComesFirst [] ys = ⊤
ComesFirst (x ∷ xs) [] = ⊥
ComesFirst (x ∷ xs) (y ∷ ys) = (x < y) ⊎ ((x ≡ y) × ComesFirst xs ys)

-- no path costs more, and of those that cost as much none comes before it
pub record IsCritical (graph : CostedGraph) (path : List ℕ) (cost : ℕ) : Type 0 where
  pub is_path : IsPathOf graph path
  pub reached : cost_along graph.costs path ≡ cost
  pub greatest : (other : List ℕ) → IsPathOf graph other → cost_along graph.costs other ≤ cost
  pub first : (other : List ℕ) → IsPathOf graph other → cost_along graph.costs other ≡ cost → ComesFirst path other

-- whether the heaviest path from a node goes on over this edge
abbrev pub GoesOver : List (ℕ × ℕ) → List ℕ → List ℕ → ℕ → ℕ → Type 0
GoesOver edges costs priority n m = Contains edges (n, m) × (slice_index priority n ≡ slice_index costs n + slice_index priority m)

-- the least node that the heaviest path from a node goes on to, if there is any
abbrev pub IsLeastNext : List (ℕ × ℕ) → List ℕ → List ℕ → ℕ → Option ℕ → Type 0
IsLeastNext edges costs priority n next = MatchOption next
    ((m : ℕ) → GoesOver edges costs priority n m → ⊥)
    (λ m. GoesOver edges costs priority n m × ((k : ℕ) → GoesOver edges costs priority n k → m ≤ k))

-- that of each node
pub record AreNext (nodes : ℕ) (edges : List (ℕ × ℕ)) (costs priority : List ℕ) (next : List (Option ℕ)) : Type 0 where
  pub one_each : length next ≡ nodes
  pub each : (n : ℕ) → n < nodes → IsLeastNext edges costs priority n (slice_index_or next n None)
