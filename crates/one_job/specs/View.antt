-- A job as plain data, and which of its nodes may be claimed.
use Rattle.std.specs.Prelude.{◌≡◌, ℕ, ℤ, List, [], length, map, Option, None, unwrap_or, slice_index_or}
use Rattle.split_block.specs.View.{Block}
use Rattle.kernel_gate.specs.declared.room.RoomSize.{RoomSize}
use Rattle.sdf_level.specs.LevelRun.{HaveDelays}
use Rattle.sdf_level.specs.declared.node.Node.{Node}
use Rattle.sdf_level.specs.declared.node.Node.TheVariants as node
use Rattle.job_compiler.specs.Compilation.{Compilation}
use Rattle.job_flow.specs.Graphs.{JobGraph, node_at}
use Rattle.job_flow.specs.Events.{IsReady}
use Rattle.one_job.specs.Marks.{Mark, Free, mark_at, values}

-- what the job was started with, the block in which its buffers lie, and how far each node is
pub record JobView : Type 0 where
  pub compilation : Compilation
  -- for each actor the place of its kernel, or none where its firings are jobs of their own, and its arguments
  pub kinds : List (Option ℕ)
  pub args : List (List ℤ)
  -- the tokens of each source, and those that each link holds at the start
  pub sources : List (List ℤ)
  pub stored : List (List ℤ)
  pub block : Block
  pub marks : List Mark
  -- as much memory as the frame of any node takes
  pub room : RoomSize

-- the graph of a compilation, with what its sources give and its links hold
abbrev pub job_graph : Compilation → List (List ℤ) → List (List ℤ) → JobGraph ℤ
job_graph c sources stored = record { level = c.level; nodes = c.graph.nodes; edges = c.graph.edges; sources = sources; delays = stored }

abbrev pub graph_of : JobView → JobGraph ℤ
graph_of j = job_graph j.compilation j.sources j.stored

-- an entry for each actor, as many tokens of each source as its rate, and as many on each link as its delay
pub record HasLists (j : JobView) : Type 0 where
  pub kinds : length j.kinds ≡ j.compilation.level.actors
  pub args : length j.args ≡ j.compilation.level.actors
  pub sources : map length j.sources ≡ j.compilation.level.sources
  pub stored : HaveDelays j.compilation.level.links j.stored

abbrev pub kind_at : List (Option ℕ) → Node → ℕ
kind_at kinds (node.Source s) = 0
kind_at kinds (node.Init l) = 0
kind_at kinds (node.Firing a k) = unwrap_or (slice_index_or kinds a None) 0
kind_at kinds (node.End l) = 0
kind_at kinds (node.Sink t) = 0
kind_at kinds (node.Broadcast l) = 0
kind_at kinds (node.Fork l i) = 0
kind_at kinds (node.Join l k) = 0
kind_at kinds (node.Round l) = 0

-- the kind of node number n: that of its actor where it is a firing and its actor has one, else 0
abbrev pub kind_of : JobView → ℕ → ℕ
kind_of j n = kind_at j.kinds (node_at j.compilation.graph.nodes n)

abbrev pub args_at : List (List ℤ) → Node → List ℤ
args_at args (node.Source s) = []
args_at args (node.Init l) = []
args_at args (node.Firing a k) = slice_index_or args a []
args_at args (node.End l) = []
args_at args (node.Sink t) = []
args_at args (node.Broadcast l) = []
args_at args (node.Fork l i) = []
args_at args (node.Join l k) = []
args_at args (node.Round l) = []

-- the arguments of its actor, where it is a firing
abbrev pub args_of : JobView → ℕ → List ℤ
args_of j n = args_at j.args (node_at j.compilation.graph.nodes n)

abbrev pub IsFiring : Node → Type 0
IsFiring (node.Source s) = ⊥
IsFiring (node.Init l) = ⊥
IsFiring (node.Firing a k) = Unit {0}
IsFiring (node.End l) = ⊥
IsFiring (node.Sink t) = ⊥
IsFiring (node.Broadcast l) = ⊥
IsFiring (node.Fork l i) = ⊥
IsFiring (node.Join l k) = ⊥
IsFiring (node.Round l) = ⊥

-- a node that may be claimed: every node before it is finished without a fault, and it isn't claimed yet
pub record IsEnabled (j : JobView) (n : ℕ) : Type 0 where
  pub ready : IsReady (graph_of j) (values j.marks) n
  pub unclaimed : mark_at j.marks n ≡ Free
