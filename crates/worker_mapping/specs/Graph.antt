-- A graph whose nodes cost time, and the priorities of its nodes.
use Rattle.std.specs.Prelude.{◌≡◌, ℕ, ◌+◌, ◌<◌, ◌==◌, max, List, [], ◌∷◌, All, length, map, filter, slice_index}

-- an edge is the number of its tail and that of its head; a node's cost stands at its number
pub record CostedGraph : Type 0 where
  pub nodes : ℕ
  pub edges : List (ℕ × ℕ)
  pub costs : List ℕ

abbrev pub graph_of : ℕ → List (ℕ × ℕ) → List ℕ → CostedGraph
graph_of nodes edges costs = record { nodes = nodes; edges = edges; costs = costs }

-- the nodes at the outgoing edges of a node, one for each edge
abbrev pub nodes_after : List (ℕ × ℕ) → ℕ → List ℕ
nodes_after edges n = map (λ e. e.1) (filter (λ e. e.0 == n) edges)

-- the nodes at its incoming edges
abbrev pub nodes_before : List (ℕ × ℕ) → ℕ → List ℕ
nodes_before edges n = map (λ e. e.0) (filter (λ e. e.1 == n) edges)

-- the greatest of some numbers, 0 where there are none
abbrev pub greatest : List ℕ → ℕ
greatest [] = 0
greatest (x ∷ xs) = max x (greatest xs)

-- a node's priority is its cost plus the greatest priority of the nodes at its outgoing edges
pub record IsPriority (graph : CostedGraph) (priority : List ℕ) : Type 0 where
  pub one_each : length priority ≡ graph.nodes
  pub each : (n : ℕ) → n < graph.nodes
      → slice_index priority n ≡ slice_index graph.costs n + greatest (map (slice_index priority) (nodes_after graph.edges n))

-- both ends of an edge are nodes
abbrev pub AreThere : ℕ → List (ℕ × ℕ) → Type 0
AreThere nodes edges = All (λ e. (e.0 < nodes) × (e.1 < nodes)) edges

-- each edge leads to a node of greater rank
abbrev pub Rise : List ℕ → List (ℕ × ℕ) → Type 0
Rise ranks edges = All (λ e. slice_index ranks e.0 < slice_index ranks e.1) edges
