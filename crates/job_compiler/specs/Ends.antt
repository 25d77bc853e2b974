-- The ends of edges, as nodes with ports, and the rows in which they are entered.
use Rattle.std.specs.Prelude.{◌≡◌, ℕ, ◌+◌, ◌<◌, ◌==◌, ◌&&◌, Bool, List, [], ◌∷◌, map, length, slice_index, slice_index_or, Option, Some, None, if◌then◌else◌}
use Rattle.std.specs.List.{range_with_len}
use Rattle.sdf_level.specs.Invariants.{how_many}
use Rattle.sdf_level.specs.Run.{is_into_actor}
use Rattle.sdf_level.specs.declared.link.Link.{Link}
use Rattle.sdf_level.specs.declared.node.Node.{Node}
use Rattle.sdf_level.specs.declared.node.Node.TheVariants as node
use Rattle.sdf_level.specs.declared.single_rate.Edge.{Edge}
use Rattle.single_rate.specs.Names.{is_from_actor}
use Rattle.job_compiler.specs.Rows.{row_of}

abbrev pub head_of : Edge → ℕ × ℕ
head_of e = (e.head, e.head_port)

abbrev pub tail_of : Edge → ℕ × ℕ
tail_of e = (e.tail, e.tail_port)

-- an end with this number
abbrev pub end_at : List (ℕ × ℕ) → ℕ → ℕ × ℕ
end_at ends i = slice_index_or ends i (0, 0)

-- the number of the first end at a port of a node, where the first of all has this number, or none
abbrev pub end_from : ℕ → List (ℕ × ℕ) → ℕ → ℕ → Option ℕ
end_from k [] n p = None
end_from k (end ∷ ends) n p = if (end.0 == n) && (end.1 == p) then Some k else end_from (k + 1) ends n p

-- so many ports of a node, each with the end there
abbrev pub ports_with : List (ℕ × ℕ) → ℕ → ℕ → List (Option ℕ)
ports_with ends n count = map (end_from 0 ends n) (range_with_len 0 count)

-- how many ends are at a node
abbrev pub ends_at : ℕ → List (ℕ × ℕ) → ℕ
ends_at n [] = 0
ends_at n (end ∷ ends) = (if end.0 == n then 1 else 0) + ends_at n ends

-- for each node the number of ends there
pub record AreEndCounts (nodes : ℕ) (ends : List (ℕ × ℕ)) (counts : List ℕ) : Type 0 where
  pub one_each : length counts ≡ nodes
  pub each : (n : ℕ) → n < nodes → slice_index counts n ≡ ends_at n ends

-- how many ports of a node read from edges, so many of which enter it
abbrev pub in_count : List Link → Node → ℕ → ℕ
in_count links (node.Source s) edges = 0
in_count links (node.Init l) edges = 0
in_count links (node.Firing a k) edges = how_many (is_into_actor a) links
in_count links (node.End l) edges = 1
in_count links (node.Sink t) edges = 1
in_count links (node.Broadcast l) edges = 1
in_count links (node.Fork l i) edges = 1
in_count links (node.Join l j) edges = edges
in_count links (node.Round l) edges = edges

-- how many write to edges, so many of which leave it
abbrev pub out_count : List Link → Node → ℕ → ℕ
out_count links (node.Source s) edges = 1
out_count links (node.Init l) edges = 1
out_count links (node.Firing a k) edges = how_many (is_from_actor a) links
out_count links (node.End l) edges = 0
out_count links (node.Sink t) edges = 0
out_count links (node.Broadcast l) edges = edges
out_count links (node.Fork l i) edges = edges
out_count links (node.Join l j) edges = edges
out_count links (node.Round l) edges = edges

-- each end has its port in a row, and no two ends have the same
pub record HaveRows (counts : List ℕ) (ends : List (ℕ × ℕ)) : Type 0 where
  pub there : (i : ℕ) → i < length ends → (end_at ends i).0 < length counts
  pub ports : (i : ℕ) → i < length ends → (end_at ends i).1 < slice_index counts (end_at ends i).0
  pub apart : (i j : ℕ) → i < length ends → j < length ends → (end_at ends i).0 ≡ (end_at ends j).0 → (end_at ends i).1 ≡ (end_at ends j).1 → i ≡ j

-- rows in which the first so many ends are entered
pub record AreRows (counts : List ℕ) (ends : List (ℕ × ℕ)) (k : ℕ) (rows : List (List (Option ℕ))) : Type 0 where
  pub one_each : length rows ≡ length counts
  pub longs : (n : ℕ) → n < length counts → length (row_of rows n) ≡ slice_index counts n
  pub entered : (i : ℕ) → i < k → slice_index_or (row_of rows (end_at ends i).0) (end_at ends i).1 None ≡ Some i
  pub only : (n p i : ℕ) → slice_index_or (row_of rows n) p None ≡ Some i → (i < k) × ((end_at ends i).0 ≡ n) × ((end_at ends i).1 ≡ p)

-- for each node the number of its ports, by how many edges it has
pub record AreCounts (count : Node → ℕ → ℕ) (nodes : List Node) (edges counts : List ℕ) : Type 0 where
  pub one_each : length counts ≡ length nodes
  pub each : (n : ℕ) → n < length nodes → slice_index counts n ≡ count (slice_index_or nodes n (node.Source 0)) (slice_index edges n)

-- for each of some actors how many links pass the test for it
pub record AreLinkCounts (test : ℕ → Link → Bool) (links : List Link) (counts : List ℕ) : Type 0 where
  pub each : (a : ℕ) → a < length counts → slice_index counts a ≡ how_many (test a) links
