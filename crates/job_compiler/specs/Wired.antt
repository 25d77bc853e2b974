-- The edges at the ports of the nodes of a single-rate graph.
use Rattle.std.specs.Prelude.{◌≡◌, ℕ, ℤ, ◌+◌, ◌<◌, Bool, true, false, List, [], ◌∷◌, length, map, slice_index_or, Option, Some, None, if◌then◌else◌}
use Rattle.std.specs.List.{range_with_len}
use Rattle.sdf_level.specs.View.{LevelView}
use Rattle.sdf_level.specs.LevelRun.{HaveDelays}
use Rattle.sdf_level.specs.Repetition.{IsRepetition}
use Rattle.sdf_level.specs.Orders.{IsTurnOrder}
use Rattle.sdf_level.specs.declared.node.Node.{Node}
use Rattle.sdf_level.specs.declared.node.Node.TheVariants as node
use Rattle.sdf_level.specs.declared.turn.Turn.{Turn}
use Rattle.sdf_level.specs.declared.single_rate.Edge.{Edge}
use Rattle.sdf_level.specs.declared.single_rate.SingleRate.{SingleRate}
use Rattle.job_flow.specs.Graphs.{JobGraph, node_at}
use Rattle.job_flow.specs.Frames.{ports_in, lens}
use Rattle.job_flow.specs.Laws.{edge_at}
use Rattle.job_compiler.specs.Compilation.{IsExpanded}
use Rattle.job_compiler.specs.Rows.{row_of, IsMost}
use Rattle.job_compiler.specs.Ends.{head_of, tail_of, ends_at, ports_with, in_count, out_count, AreEndCounts}
use Rattle.job_compiler.specs.declared.wiring.Wiring.{Wiring}

-- ---- by definition

-- for each node its ports that read from edges, each with the edge that enters there. A port that reads nothing has none.
unfoldable pub entering : LevelView → SingleRate → List (List (Option ℕ))
entering level graph =
    map (λ n. ports_with (map head_of graph.edges) n (in_count level.links (node_at graph.nodes n) (ends_at n (map head_of graph.edges)))) (range_with_len 0 (length graph.nodes))

-- for each node its ports that write to edges, each with the edge that leaves there. A port that writes nothing has none.
unfoldable pub leaving : LevelView → SingleRate → List (List (Option ℕ))
leaving level graph =
    map (λ n. ports_with (map tail_of graph.edges) n (out_count level.links (node_at graph.nodes n) (ends_at n (map tail_of graph.edges)))) (range_with_len 0 (length graph.nodes))

-- ---- what this means for a job

-- a Source and an Init read stored tokens
abbrev pub reads_stored : Node → Bool
reads_stored (node.Source s) = true
reads_stored (node.Init l) = true
reads_stored (node.Firing a k) = false
reads_stored (node.End l) = false
reads_stored (node.Sink t) = false
reads_stored (node.Broadcast l) = false
reads_stored (node.Fork l i) = false
reads_stored (node.Join l j) = false
reads_stored (node.Round l) = false

-- an End and a Sink write tokens that are stored
abbrev pub writes_stored : Node → Bool
writes_stored (node.Source s) = false
writes_stored (node.Init l) = false
writes_stored (node.Firing a k) = false
writes_stored (node.End l) = true
writes_stored (node.Sink t) = true
writes_stored (node.Broadcast l) = false
writes_stored (node.Fork l i) = false
writes_stored (node.Join l j) = false
writes_stored (node.Round l) = false

-- from a port on, each has none or an edge into the node there
abbrev pub EachEnters : List Edge → ℕ → ℕ → List (Option ℕ) → Type 0
EachEnters edges n p [] = Unit {0}
EachEnters edges n p (None ∷ ports) = EachEnters edges n (p + 1) ports
EachEnters edges n p (Some e ∷ ports) = (e < length edges) × ((edge_at edges e).head ≡ n) × ((edge_at edges e).head_port ≡ p) × EachEnters edges n (p + 1) ports

-- or out of it
abbrev pub EachLeaves : List Edge → ℕ → ℕ → List (Option ℕ) → Type 0
EachLeaves edges n p [] = Unit {0}
EachLeaves edges n p (None ∷ ports) = EachLeaves edges n (p + 1) ports
EachLeaves edges n p (Some e ∷ ports) = (e < length edges) × ((edge_at edges e).tail ≡ n) × ((edge_at edges e).tail_port ≡ p) × EachLeaves edges n (p + 1) ports

abbrev pub port_size : List Edge → Option ℕ → ℕ
port_size edges None = 0
port_size edges (Some e) = (edge_at edges e).size

-- the rows have the ports of all nodes, and each edge stands at both of its ports
pub record AreWired (job : JobGraph ℤ) (entering leaving : List (List (Option ℕ))) : Type 0 where
  pub rows_in : length entering ≡ length job.nodes
  pub rows_out : length leaving ≡ length job.nodes
  pub enters : (n : ℕ) → n < length job.nodes → EachEnters job.edges n 0 (row_of entering n)
  pub leaves : (n : ℕ) → n < length job.nodes → EachLeaves job.edges n 0 (row_of leaving n)
  pub heads : (e : ℕ) → e < length job.edges → slice_index_or (row_of entering (edge_at job.edges e).head) (edge_at job.edges e).head_port None ≡ Some e
  pub tails : (e : ℕ) → e < length job.edges → slice_index_or (row_of leaving (edge_at job.edges e).tail) (edge_at job.edges e).tail_port None ≡ Some e
  pub ins : (n : ℕ) → n < length job.nodes → length (row_of entering n) ≡ (if reads_stored (node_at job.nodes n) then 0 else ports_in job (node_at job.nodes n) n)
  pub outs : (n : ℕ) → n < length job.nodes → map (port_size job.edges) (row_of leaving n) ≡ (if writes_stored (node_at job.nodes n) then [] else lens job n)

-- a level with its graph, what its sources give, and what its links hold at the start
abbrev pub job_of : LevelView → SingleRate → List (List ℤ) → List (List ℤ) → JobGraph ℤ
job_of level graph sources stored = record { level = level; nodes = graph.nodes; edges = graph.edges; sources = sources; delays = stored }

-- so they are whatever the sources give and the links hold
abbrev pub WireJobs : LevelView → SingleRate → List (List (Option ℕ)) → List (List (Option ℕ)) → Type 0
WireJobs level graph entering leaving =
    (sources stored : List (List ℤ)) → map length sources ≡ level.sources → HaveDelays level.links stored → AreWired (job_of level graph sources stored) entering leaving

-- ---- what is kept of it

-- the edges at the ports of all nodes, how many edges enter each node, and the most ports of a node
pub record IsWiring (level : LevelView) (graph : SingleRate) (wiring : Wiring) : Type 0 where
  pub entering_are : wiring.entering ≡ entering level graph
  pub leaving_are : wiring.leaving ≡ leaving level graph
  pub into_are : AreEndCounts (length graph.nodes) (map head_of graph.edges) wiring.into
  pub inputs_are : IsMost wiring.entering wiring.inputs
  pub outputs_are : IsMost wiring.leaving wiring.outputs
  pub wire_jobs : WireJobs level graph wiring.entering wiring.leaving

-- the graph is that of the level, with some repetition vector and some order of one thread
pub record IsGraphOf (level : LevelView) (graph : SingleRate) : Type 0 where
  pub counts : List ℕ
  pub order : List Turn
  pub repetition : IsRepetition level counts
  pub order_is : IsTurnOrder level counts order
  pub expanded : IsExpanded level counts order graph
