-- The fields of a job.
use Rattle.std.specs.Prelude.{◌≡◌, ℕ, ℤ, ◌<◌, ◌≤◌, true, [], List, length, map, slice_index, slice_index_or, Option}
use Rattle.std.specs.Arc.{arc_value}
use Rattle.cell_pool.specs.View.{PoolView}
use Rattle.kernel_gate.specs.Value.{Places}
use Rattle.sdf_level.specs.declared.node.Node.{Node}
use Rattle.job_compiler.specs.Compilation.{IsCompiled}
use Rattle.job_compiler.specs.Wired as at_ports
use Rattle.job_flow.specs.Graphs.{node_at}
use Rattle.job_flow.specs.Frames.{lens}
use Rattle.job_flow.specs.Outcomes.{ended}
use Rattle.one_job.specs.Marks.{Claimed, mark_at, IsFree, phase, values}
use Rattle.one_job.specs.Places.{buffer_at}
use Rattle.one_job.specs.Live.{InOrder, IsLent, AreOut, HoldFull}
use Rattle.one_job.specs.Ports.{reads_stored, writes_stored, row_of, AreWired, LieBehind}
use Rattle.one_job.specs.Opening.{stored_in}
use Rattle.one_job.specs.Stock.{IsStock}
use Rattle.one_job.specs.Rooms.{IsRoomFor}
use Rattle.one_job.specs.View.{JobView, graph_of, HasLists, args_of}
use Rattle.one_job.specs.Staged.{mark_of}
use Rattle.one_job.specs.Ready.{KeepsReady}
use Rattle.one_job.specs.declared.job.Job.TheInside.{Inside}

abbrev pub view_of : Inside → JobView
view_of i = record {
  compilation = arc_value i.compiled;
  kinds = i.kinds;
  args = i.args;
  sources = i.sources.value;
  stored = i.stored.value;
  block = i.pool.block;
  marks = map mark_of i.stages.items;
  room = i.size;
}

-- by the node's number, the edges at its ports and what lies ready for it
pub record Parts : Type 0 where
  pub entering : List (List (Option ℕ))
  pub leaving : List (List (Option ℕ))
  pub stock : List (List ℤ)

abbrev pub parts_of : Inside → Parts
parts_of i = record {
  entering = at_ports.entering (arc_value i.compiled).level (arc_value i.compiled).graph;
  leaving = at_ports.leaving (arc_value i.compiled).level (arc_value i.compiled).graph;
  stock = i.stock.items;
}

-- the tokens that a Source or an Init reads
abbrev pub stored_at : JobView → Node → List ℤ
stored_at j which = stored_in j.sources j.stored which

-- what lies ready for a node: where what the node writes is stored, there are as many cells as it writes tokens
abbrev pub HasStock : JobView → Parts → ℕ → Type 0
HasStock j p n =
    IsStock (node_at j.compilation.graph.nodes n) (stored_at j (node_at j.compilation.graph.nodes n)) (slice_index (lens (graph_of j) n) 0) (slice_index_or p.stock n [])

-- the frame of a node takes at most as much memory as the job says
abbrev pub HasRoom : JobView → Parts → ℕ → Type 0
HasRoom j p n = IsRoomFor (node_at j.compilation.graph.nodes n) (args_of j n) (length (row_of p.entering n)) (length (row_of p.leaving n)) j.room

-- the leases of a claimed node
pub record LieRight (j : JobView) (p : Parts) (n : ℕ) (places : Places) : Type 0 where
  pub inputs : LieBehind (buffer_at j.compilation.graph.edges j.compilation.placement.offsets) j.block (reads_stored (node_at j.compilation.graph.nodes n)) (row_of p.entering n) places.inputs
  pub outputs : LieBehind (buffer_at j.compilation.graph.edges j.compilation.placement.offsets) j.block (writes_stored (node_at j.compilation.graph.nodes n)) (row_of p.leaving n) places.outputs

-- the pool has the job's cells
pub record IsPoolOf (j : JobView) (pool : PoolView) : Type 0 where
  pub block : pool.block ≡ j.block
  pub pooled : j.block.pooled ≡ true
  pub len : j.block.len ≡ j.compilation.placement.height
  pub long : length pool.cells ≡ j.compilation.placement.height
  pub most : pool.most ≡ 4294967295
  pub small : j.compilation.placement.height ≤ 4294967295

pub record Keeps (j : JobView) (p : Parts) (pool : PoolView) (outs left : List (List ℤ)) : Type 0 where
  pub compiled : IsCompiled j.compilation
  pub lists : HasLists j
  pub one_each : length j.marks ≡ length j.compilation.graph.nodes
  pub wired : AreWired (graph_of j) p.entering p.leaving
  pub order : InOrder j.compilation.graph.edges j.marks
  pub cells : IsPoolOf j pool
  pub out : AreOut (buffer_at j.compilation.graph.edges j.compilation.placement.offsets) (length j.compilation.graph.edges) (IsLent j.compilation.graph.edges j.marks) pool.out
  pub full : HoldFull j.compilation.graph.edges j.compilation.placement.offsets j.marks pool.cells
  pub stocked : length p.stock ≡ length j.compilation.graph.nodes
  pub free : (n : ℕ) → n < length j.compilation.graph.nodes → phase j.marks n ≡ IsFree → HasStock j p n
  pub rooms : (n : ℕ) → n < length j.compilation.graph.nodes → HasRoom j p n
  pub claimed : (n : ℕ) (places : Places) → mark_at j.marks n ≡ Claimed places → LieRight j p n places
  pub outs_are : outs ≡ (ended (graph_of j) (values j.marks)).outs
  pub left_are : left ≡ (ended (graph_of j) (values j.marks)).left

abbrev pub IsJob : Inside → Type 0
IsJob i = Keeps (view_of i) (parts_of i) i.pool i.outs.items i.left.items × KeepsReady (view_of i) i.waiting.items i.claimed i.ready
