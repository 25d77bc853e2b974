-- The nodes at the edges of each node, as lists by node.
use Rattle.std.specs.Prelude.{◌≡◌, ℕ, ◌<◌, List, [], length, slice_index, slice_index_or}
use Rattle.worker_mapping.specs.Graph.{nodes_after, nodes_before}

-- a list for each node, the nodes at its outgoing edges
pub record AreAfter (nodes : ℕ) (edges : List (ℕ × ℕ)) (lists : List (List ℕ)) : Type 0 where
  pub one_each : length lists ≡ nodes
  pub each : (n : ℕ) → n < nodes → slice_index_or lists n [] ≡ nodes_after edges n

-- a number for each node, how many edges lead to it
pub record AreCounted (nodes : ℕ) (edges : List (ℕ × ℕ)) (counts : List ℕ) : Type 0 where
  pub one_each : length counts ≡ nodes
  pub each : (n : ℕ) → n < nodes → slice_index counts n ≡ length (nodes_before edges n)
