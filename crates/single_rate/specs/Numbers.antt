-- The numbers of nodes in rows: for each of six kinds of node one row, and three rows for each number of an actor or link.
use Rattle.std.specs.Prelude.{◌≡◌, ℕ, ◌+◌, ◌*◌, ◌<◌, List, [], length, slice_index, slice_index_or}
use Rattle.sdf_level.specs.declared.node.Node.{Node}
use Rattle.sdf_level.specs.declared.node.Node.TheVariants as node
use Rattle.single_rate.specs.declared.wire.Wire.{Wire}
use Rattle.single_rate.specs.Expanded.{place_of}

abbrev pub row_of : Node → ℕ
row_of (node.Source s) = 0
row_of (node.Init l) = 1
row_of (node.End l) = 2
row_of (node.Sink t) = 3
row_of (node.Broadcast l) = 4
row_of (node.Round l) = 5
row_of (node.Firing a k) = 3 * a + 6
row_of (node.Fork l i) = 3 * l + 7
row_of (node.Join l j) = 3 * l + 8

abbrev pub column_of : Node → ℕ
column_of (node.Source s) = s
column_of (node.Init l) = l
column_of (node.End l) = l
column_of (node.Sink t) = t
column_of (node.Broadcast l) = l
column_of (node.Round l) = l
column_of (node.Firing a k) = k
column_of (node.Fork l i) = i
column_of (node.Join l j) = j

abbrev pub number_in : List (List ℕ) → Node → ℕ
number_in rows n = slice_index (slice_index_or rows (row_of n) []) (column_of n)

-- each node of the list has there its number: its place in the list
abbrev pub AreNumbered : List Node → List (List ℕ) → Type 0
AreNumbered list rows = (n : Node) → place_of list n < length list → number_in rows n ≡ place_of list n

-- the list has both ends of the edge
pub record HasNumbers (list : List Node) (w : Wire) : Type 0 where
  pub tail : place_of list w.tail.node < length list
  pub head : place_of list w.head.node < length list
