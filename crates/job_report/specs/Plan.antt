-- The plan of a job: how often its actors fire and in which order, its nodes with their homes and priorities, and its buffers with their offsets.
use Rattle.std.specs.Prelude.{ℕ, List, [], ◌∷◌, ◌++◌, codes, slice_index}
use Rattle.std.specs.Fmt.{decimal}
use Rattle.token_text.specs.Rows.{row_of}
use Rattle.pisdf_model.specs.Details.{of_each}
use Rattle.sdf_level.specs.declared.node.Node.{Node}
use Rattle.sdf_level.specs.declared.node.Node.TheVariants.{Source, Init, Firing, Broadcast, Fork, Join, Round, End, Sink}
use Rattle.sdf_level.specs.declared.single_rate.Edge.{Edge}
use Rattle.sdf_level.specs.declared.turn.Turn.{Turn}
use Rattle.job_compiler.specs.Compilation.{Compilation}
use Rattle.job_report.specs.Rows.{firing_name, name_at}
use Rattle.job_report.specs.declared.names.JobNames.{JobNames}

-- repetition,ACTOR,COUNT
abbrev pub repetition_row : JobNames → ℕ → ℕ → List ℕ
repetition_row names actor count = row_of (codes "repetition" ∷ name_at names.actors actor ∷ decimal count ∷ [])

-- order,ACTOR,FIRING
abbrev pub order_row : JobNames → Turn → List ℕ
order_row names turn = row_of (codes "order" ∷ name_at names.actors turn.actor ∷ decimal turn.turn ∷ [])

abbrev pub kind_word : Node → List ℕ
kind_word (Source source) = codes "source"
kind_word (Init link) = codes "init"
kind_word (Firing actor turn) = codes "firing"
kind_word (Broadcast link) = codes "broadcast"
kind_word (Fork link turn) = codes "fork"
kind_word (Join link turn) = codes "join"
kind_word (Round link) = codes "round"
kind_word (End link) = codes "end"
kind_word (Sink sink) = codes "sink"

-- the name of a source or sink, a firing by its actor's name and its number, and for each other node the number of its link
abbrev pub node_name : JobNames → Node → List ℕ
node_name names (Source source) = name_at names.sources source
node_name names (Init link) = decimal link
node_name names (Firing actor turn) = firing_name (name_at names.actors actor) turn
node_name names (Broadcast link) = decimal link
node_name names (Fork link turn) = decimal link
node_name names (Join link turn) = decimal link
node_name names (Round link) = decimal link
node_name names (End link) = decimal link
node_name names (Sink sink) = name_at names.sinks sink

-- node,ID,KIND,NAME,HOME,PRIORITY
abbrev pub node_row : JobNames → ℕ → ℕ → ℕ → Node → List ℕ
node_row names home priority id node = row_of (codes "node" ∷ decimal id ∷ kind_word node ∷ node_name names node ∷ decimal home ∷ decimal priority ∷ [])

-- edge,ID,TAIL,HEAD,SIZE,OFFSET
abbrev pub edge_row : ℕ → ℕ → Edge → List ℕ
edge_row offset id edge = row_of (codes "edge" ∷ decimal id ∷ decimal edge.tail ∷ decimal edge.head ∷ decimal edge.size ∷ decimal offset ∷ [])

-- height,H
abbrev pub height_row : ℕ → List ℕ
height_row height = row_of (codes "height" ∷ decimal height ∷ [])

-- ---- the rows of a kind, by number

abbrev pub repetition_rows : JobNames → List ℕ → List ℕ
repetition_rows names counts = of_each (λ a count. repetition_row names a count) counts

abbrev pub order_rows : JobNames → List Turn → List ℕ
order_rows names order = of_each (λ k turn. order_row names turn) order

abbrev pub node_rows : JobNames → List ℕ → List ℕ → List Node → List ℕ
node_rows names home priority nodes = of_each (λ n node. node_row names (slice_index home n) (slice_index priority n) n node) nodes

abbrev pub edge_rows : List ℕ → List Edge → List ℕ
edge_rows offsets edges = of_each (λ e edge. edge_row (slice_index offsets e) e edge) edges

abbrev pub plan_text : JobNames → Compilation → List ℕ
plan_text names job =
    repetition_rows names job.counts
    ++ order_rows names job.order
    ++ node_rows names job.mapping.home job.mapping.priority job.graph.nodes
    ++ edge_rows job.placement.offsets job.graph.edges
    ++ height_row job.placement.height
