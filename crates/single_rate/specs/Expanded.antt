-- The single-rate graph of a level.
use Rattle.std.specs.Prelude.{ℕ, ◌+◌, ◌*◌, ◌==◌, List, [], ◌∷◌, ◌++◌, map, slice_index, slice_index_or, if◌then◌else◌}
use Rattle.sdf_level.specs.View.{LevelView}
use Rattle.sdf_level.specs.declared.link.Link.{Link}
use Rattle.sdf_level.specs.declared.link.Tail.{Tail}
use Rattle.sdf_level.specs.declared.link.Head.{Head}
use Rattle.sdf_level.specs.declared.link.Tail.TheVariants as tail
use Rattle.sdf_level.specs.declared.link.Head.TheVariants as head
use Rattle.sdf_level.specs.declared.node.Node.{Node}
use Rattle.sdf_level.specs.declared.node.Node.TheVariants as node
use Rattle.sdf_level.specs.declared.single_rate.Edge.{Edge}
use Rattle.sdf_level.specs.declared.turn.Turn.{Turn}
use Rattle.single_rate.specs.Nodes.{same}
use Rattle.single_rate.specs.Wires.{firing_parts, delay_part, into_forks, out_of_joins, wires}
use Rattle.single_rate.specs.declared.part.Part.{Part}
use Rattle.single_rate.specs.declared.wire.Wire.{Wire}

abbrev pub source_nodes : ℕ → List ℕ → List Node
source_nodes s [] = []
source_nodes s (rate ∷ rates) = node.Source s ∷ source_nodes (s + 1) rates

abbrev pub sink_nodes : ℕ → List ℕ → List Node
sink_nodes t [] = []
sink_nodes t (rate ∷ rates) = node.Sink t ∷ sink_nodes (t + 1) rates

-- an Init for each link with a delay, and an End
abbrev pub init_nodes : ℕ → List Link → List Node
init_nodes l [] = []
init_nodes l (link ∷ links) = (if link.delay == 0 then [] else node.Init l ∷ []) ++ init_nodes (l + 1) links

abbrev pub end_nodes : ℕ → List Link → List Node
end_nodes l [] = []
end_nodes l (link ∷ links) = (if link.delay == 0 then [] else node.End l ∷ []) ++ end_nodes (l + 1) links

abbrev pub firing_nodes : List Turn → List Node
firing_nodes turns = map (λ t. node.Firing t.actor t.turn) turns

-- the Forks of a link by writer, then its Joins by reader
abbrev pub forks_and_joins : ℕ → List Part → List Part → List Node
forks_and_joins l writers readers = map (λ w. w.head.node) (into_forks l readers 0 0 writers) ++ map (λ w. w.tail.node) (out_of_joins l writers 0 0 readers)

-- the nodes of link number l that copy
abbrev pub copies_at : LevelView → List ℕ → ℕ → Tail → Head → ℕ → List Node
copies_at level q l (tail.Source s) (head.Sink t) d = []
copies_at level q l (tail.Source s) (head.Port b j c) d =
    if slice_index q b * c == slice_index level.sources s
    then forks_and_joins l (record { at = record { node = node.Source s; port = 0 }; size = slice_index level.sources s } ∷ []) (firing_parts b j c 0 (slice_index q b))
    else node.Broadcast l ∷ []
copies_at level q l (tail.Port a p r) (head.Sink t) d =
    if slice_index q a * r == slice_index level.sinks t
    then forks_and_joins l (firing_parts a p r 0 (slice_index q a)) (record { at = record { node = node.Sink t; port = 0 }; size = slice_index level.sinks t } ∷ [])
    else node.Round l ∷ []
copies_at level q l (tail.Port a p r) (head.Port b j c) d =
    forks_and_joins l (delay_part (node.Init l) d ++ firing_parts a p r 0 (slice_index q a)) (firing_parts b j c 0 (slice_index q b) ++ delay_part (node.End l) d)

abbrev pub copies_from : LevelView → List ℕ → ℕ → List Link → List Node
copies_from level q l [] = []
copies_from level q l (link ∷ links) = copies_at level q l link.tail link.head link.delay ++ copies_from level q (l + 1) links

abbrev pub nodes : LevelView → List ℕ → List Turn → List Node
nodes level q turns =
    source_nodes 0 level.sources ++ init_nodes 0 level.links ++ firing_nodes turns
    ++ copies_from level q 0 level.links ++ end_nodes 0 level.links ++ sink_nodes 0 level.sinks

-- a node's number is its place in the list
abbrev pub place_of : List Node → Node → ℕ
place_of [] n = 0
place_of (m ∷ ms) n = if same n m then 0 else 1 + place_of ms n

abbrev pub edge_of : List Node → Wire → Edge
edge_of list w = record { tail = place_of list w.tail.node; tail_port = w.tail.port; head = place_of list w.head.node; head_port = w.head.port; size = w.size }

abbrev pub edges : LevelView → List ℕ → List Turn → List Edge
edges level q turns = map (edge_of (nodes level q turns)) (wires level q)

-- an edge by its nodes
abbrev pub wire_of : List Node → Edge → Wire
wire_of list e = record { tail = record { node = slice_index_or list e.tail (node.Source 0); port = e.tail_port }; head = record { node = slice_index_or list e.head (node.Source 0); port = e.head_port }; size = e.size; place = 0 }

abbrev pub by_nodes : List Node → List Edge → List Wire
by_nodes list edges = map (wire_of list) edges

-- what an edge begins to copy at its head, or ends to copy at its tail
abbrev pub started : Node → List Node
started (node.Source s) = []
started (node.Init l) = []
started (node.Firing a k) = []
started (node.End l) = []
started (node.Sink t) = []
started (node.Broadcast l) = node.Broadcast l ∷ []
started (node.Fork l i) = node.Fork l i ∷ []
started (node.Join l j) = []
started (node.Round l) = []

abbrev pub ended : Node → List Node
ended (node.Source s) = []
ended (node.Init l) = []
ended (node.Firing a k) = []
ended (node.End l) = []
ended (node.Sink t) = []
ended (node.Broadcast l) = []
ended (node.Fork l i) = []
ended (node.Join l j) = node.Join l j ∷ []
ended (node.Round l) = node.Round l ∷ []

-- the nodes that copy, by the edges
abbrev pub copied_nodes : List Wire → List Node
copied_nodes [] = []
copied_nodes (w ∷ ws) = (started w.head.node ++ ended w.tail.node) ++ copied_nodes ws
