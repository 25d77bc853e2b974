-- Paths in a graph that is a list of edges, each a pair of its tail and its head.
use Rattle.std.specs.Prelude.{◌≡◌, ℕ, ◌<◌, List, [], ◌∷◌, length, slice_index_or, All, Contains}

abbrev pub tail_of : List (ℕ × ℕ) → ℕ → ℕ
tail_of edges e = (slice_index_or edges e (0, 0)).0

abbrev pub head_of : List (ℕ × ℕ) → ℕ → ℕ
head_of edges e = (slice_index_or edges e (0, 0)).1

-- a list of edges that leads from node v to node w, each one's head the next one's tail
abbrev pub Leads : ℕ → ℕ → List (ℕ × ℕ) → Type 0
Leads v w [] = v ≡ w
Leads v w (edge ∷ path) = (edge.0 ≡ v) × Leads edge.1 w path

-- a path of at least one edge of the graph
pub record IsPath (edges : List (ℕ × ℕ)) (v w : ℕ) (path : List (ℕ × ℕ)) : Type 0 where
  pub some : 0 < length path
  pub of_graph : All (Contains edges) path
  pub leads : Leads v w path

-- no path of at least one edge leads from the head of e to the tail of f, and none from the head of f to the tail of e
pub record Excludes (edges : List (ℕ × ℕ)) (e f : ℕ) : Type 0 where
  pub forth : (path : List (ℕ × ℕ)) → IsPath edges (head_of edges e) (tail_of edges f) path → ⊥
  pub back : (path : List (ℕ × ℕ)) → IsPath edges (head_of edges f) (tail_of edges e) path → ⊥
