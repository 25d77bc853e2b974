-- Where the cells of a job lie, and what is lent of them.
use Rattle.std.specs.Prelude.{◌≡◌, ◌≢◌, ℕ, ◌+◌, ◌<◌, ◌≤◌, List, length, true, false, slice_get, slice_index, Option, Some}
use Rattle.split_block.specs.View.{Block, LeasePlace, IsWholePlace}
use Rattle.kernel_gate.specs.Value.{Places}
use Rattle.job_compiler.specs.Compilation.{Compilation, IsCompiled}
use Rattle.job_flow.specs.Graphs.{node_at}
use Rattle.one_job.specs.Marks.{Mark, IsClaimed, phase}
use Rattle.one_job.specs.Places.{edge_at}
use Rattle.one_job.specs.Live.{InOrder}
use Rattle.one_job.specs.Ports.{reads_stored, writes_stored}
use Rattle.one_job.specs.View.{JobView}

-- the compilation of a job, whose placement says where each buffer lies, and the block of the job's pool
pub record JobCells : Type 0 where
  pub compilation : Compilation
  pub block : Block

abbrev pub cells_of : JobView → JobCells
cells_of j = record { compilation = j.compilation; block = j.block }

-- the lease of an edge's buffer
abbrev pub buffer_lease : JobCells → ℕ → LeasePlace
buffer_lease c e = record { block = c.block; start = slice_index c.compilation.placement.offsets e; len = (edge_at c.compilation.graph.edges e).size }

-- the leases of a claimed node are those of its buffers, and a port that no edge enters or leaves has an empty one, but where
-- the node has stored tokens: these lie in a block of their own, which is no pool's
pub record AreLeases (c : JobCells) (n : ℕ) (places : Places) : Type 0 where
  pub inputs : (e : ℕ) → e < length c.compilation.graph.edges → (edge_at c.compilation.graph.edges e).head ≡ n
      → slice_get places.inputs (edge_at c.compilation.graph.edges e).head_port ≡ Some (buffer_lease c e)
  pub outputs : (e : ℕ) → e < length c.compilation.graph.edges → (edge_at c.compilation.graph.edges e).tail ≡ n
      → slice_get places.outputs (edge_at c.compilation.graph.edges e).tail_port ≡ Some (buffer_lease c e)
  pub no_input : (p : ℕ) (lease : LeasePlace) → reads_stored (node_at c.compilation.graph.nodes n) ≡ false
      → ((e : ℕ) → e < length c.compilation.graph.edges → (edge_at c.compilation.graph.edges e).head ≡ n → (edge_at c.compilation.graph.edges e).head_port ≢ p)
      → slice_get places.inputs p ≡ Some lease → lease.len ≡ 0
  pub no_output : (p : ℕ) (lease : LeasePlace) → writes_stored (node_at c.compilation.graph.nodes n) ≡ false
      → ((e : ℕ) → e < length c.compilation.graph.edges → (edge_at c.compilation.graph.edges e).tail ≡ n → (edge_at c.compilation.graph.edges e).tail_port ≢ p)
      → slice_get places.outputs p ≡ Some lease → lease.len ≡ 0
  pub stored_input : (p : ℕ) (lease : LeasePlace) → reads_stored (node_at c.compilation.graph.nodes n) ≡ true → slice_get places.inputs p ≡ Some lease → IsWholePlace lease
  pub stored_output : (p : ℕ) (lease : LeasePlace) → writes_stored (node_at c.compilation.graph.nodes n) ≡ true → slice_get places.outputs p ≡ Some lease → IsWholePlace lease

-- What is lent of the nodes of a job: the job's buffers lie in one block of a pool, which is as high as the placement. Each node
-- has a mark, and what is claimed was claimed in the order of the edges. What is lent, is lent to claimed nodes, as their leases.
pub record LendsBuffers (c : JobCells) (marks : List Mark) (lent : ℕ → Option Places) : Type 0 where
  pub compiled : IsCompiled c.compilation
  pub pooled : c.block.pooled ≡ true
  pub high : c.block.len ≡ c.compilation.placement.height
  pub one_each : length marks ≡ length c.compilation.graph.nodes
  pub order : InOrder c.compilation.graph.edges marks
  pub claimed : (n : ℕ) (places : Places) → lent n ≡ Some places → phase marks n ≡ IsClaimed
  pub leases : (n : ℕ) (places : Places) → lent n ≡ Some places → AreLeases c n places

-- ---- owners of cells

-- a port of a node, by its number among the inputs or the outputs
pub data Port : Type 0 where
  Input : (number : ℕ) → Port
  Output : (number : ℕ) → Port

abbrev pub lease_at : Places → Port → Option LeasePlace
lease_at places (Input p) = slice_get places.inputs p
lease_at places (Output p) = slice_get places.outputs p

-- a cell of a pool's block, by its number there, is lent at this port
pub record HasCell (places : Places) (port : Port) (cell : ℕ) : Type 0 where
  pub lease : LeasePlace
  pub here : lease_at places port ≡ Some lease
  pub pooled : lease.block.pooled ≡ true
  pub from : lease.start ≤ cell
  pub below : cell < lease.start + lease.len

-- of what is lent to the nodes of one job, by their numbers, no cell is lent to two of them, or at two ports of one
abbrev pub OneOwnerEach : (ℕ → Option Places) → Type 0
OneOwnerEach lent = (n m : ℕ) (p q : Places) (a b : Port) (cell : ℕ) → lent n ≡ Some p → lent m ≡ Some q → HasCell p a cell → HasCell q b cell → (n ≡ m) × (a ≡ b)
