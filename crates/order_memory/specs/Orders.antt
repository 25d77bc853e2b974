-- The order of each worker's nodes, and what comes after what where every worker keeps its order.
use Rattle.std.specs.Prelude.{◌≡◌, ℕ, ◌<◌, ◌==◌, List, [], ◌∷◌, ◌++◌, length, map, filter, slice_index, slice_index_or}
use Rattle.std.specs.List.{flat_map}
use Rattle.sdf_level.specs.declared.single_rate.Edge.{Edge}
use Rattle.order_memory.specs.Line.{IsLine}

-- the nodes at home on each worker, in the order of the line
pub record AreOrdersOf (home : List ℕ) (workers : ℕ) (line : List ℕ) (orders : List (List ℕ)) : Type 0 where
  pub one_each : length orders ≡ workers
  pub each : (w : ℕ) → w < workers → slice_index_or orders w [] ≡ filter (λ n. slice_index home n == w) line

-- those of the line of the graph
pub record AreOrders (nodes : ℕ) (edges : List (ℕ × ℕ)) (home : List ℕ) (workers : ℕ) (orders : List (List ℕ)) : Type 0 where
  pub line : List ℕ
  pub is_line : IsLine nodes edges line
  pub of_line : AreOrdersOf home workers line orders

-- each node of an order with the one behind it
abbrev pub neighbours : List ℕ → List (ℕ × ℕ)
neighbours [] = []
neighbours (n ∷ []) = []
neighbours (n ∷ m ∷ rest) = (n, m) ∷ neighbours (m ∷ rest)

-- the number of cells of each edge's buffer
abbrev pub sizes_of : List Edge → List ℕ
sizes_of edges = map (λ (e : Edge). e.size) edges

-- the edges, and the neighbours in each order
abbrev pub after_of : List (ℕ × ℕ) → List (List ℕ) → List (ℕ × ℕ)
after_of edges orders = edges ++ flat_map neighbours orders
