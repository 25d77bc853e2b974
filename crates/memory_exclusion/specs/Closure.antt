-- Edges in an order in which rows of bits can be filled, and the rows that hold the edges before each node.
use Rattle.std.specs.Prelude.{◌≡◌, ℕ, ◌+◌, ◌*◌, ◌^◌, ◌<◌, ◌≤◌, ◌↔◌, ◌⊎◌, List, map, length, slice_index_or, All}
use Rattle.memory_exclusion.specs.Paths.{tail_of, head_of, IsPath}
use Rattle.memory_exclusion.specs.Bits.{HasBit}

-- each edge from its head to its tail
abbrev pub turned : List (ℕ × ℕ) → List (ℕ × ℕ)
turned edges = map (λ (edge : ℕ × ℕ). (edge.1, edge.0)) edges

-- the number of the edge at a place of a list of ranks and edges
abbrev pub number_at : List (ℕ × ℕ) → ℕ → ℕ
number_at order k = (slice_index_or order k (0, 0)).1

-- the numbers of all edges, each behind those of the edges that lead to its tail
pub record IsInOrder (edges : List (ℕ × ℕ)) (order : List (ℕ × ℕ)) : Type 0 where
  pub inside : All (λ ranked. ranked.1 < length edges) order
  pub every : (e : ℕ) → e < length edges → (k : ℕ) × (k < length order) × (number_at order k ≡ e)
  pub behind : (i j : ℕ) → i < length order → j < length order → head_of edges (number_at order j) ≡ tail_of edges (number_at order i) → j < i

-- both ends of an edge have a row among so many words
pub record HasRows (width words : ℕ) (edge : ℕ × ℕ) : Type 0 where
  pub tail_row : edge.0 * width + width ≤ words
  pub head_row : edge.1 * width + width ≤ words

-- the row of node w has the bit f exactly where a path of no edge or more leads from the head of edge f to w
abbrev pub IsOwnClosure : List (ℕ × ℕ) → ℕ → List ℕ → Type 0
IsOwnClosure edges width words = (f w : ℕ) → f < length edges → (HasBit words width w f ↔ ((head_of edges f ≡ w) ⊎ ((path : List (ℕ × ℕ)) × IsPath edges (head_of edges f) w path)))

-- the row of node w has the bit f exactly where a path of at least one edge leads from the head of edge f to w
abbrev pub IsClosure : List (ℕ × ℕ) → ℕ → List ℕ → Type 0
IsClosure edges width words = (f w : ℕ) → f < length edges → (HasBit words width w f ↔ ((path : List (ℕ × ℕ)) × IsPath edges (head_of edges f) w path))

-- the rows of the graph with these edges, in no more words than it takes
pub record IsReach (edges : List (ℕ × ℕ)) (width : ℕ) (words : List ℕ) : Type 0 where
  pub few : length edges < 2 ^ 32
  pub wide : length edges ≤ 64 * width
  pub narrow : 64 * width < length edges + 64
  pub rows : All (HasRows width (length words)) edges
  pub closure : IsClosure edges width words
