-- What holds of the buffers of every job.
use Rattle.std.specs.Prelude.{◌≡◌, ◌≢◌, ℕ, ◌+◌, ◌<◌, ◌≤◌, List, length, true, Option}
use Rattle.split_block.specs.Places.{Apart}
use Rattle.kernel_gate.specs.Value.{Places}
use Rattle.job_compiler.specs.Compilation.{Compilation, IsCompiled}
use Rattle.job_flow.specs.Frames.{on_edge}
use Rattle.one_job.specs.Marks.{Mark, Claimed, mark_at, values}
use Rattle.one_job.specs.Places.{edge_at, buffer_at}
use Rattle.one_job.specs.Live.{InOrder, IsLive, IsLent, IsFull}
use Rattle.one_job.specs.Leased.{AreLeases, JobCells, LendsBuffers, OneOwnerEach, cells_of}
use Rattle.one_job.specs.View.{JobView}

-- two buffers that are live at once share no cell
abbrev pub LiveBuffersAreApart : Type 0
LiveBuffersAreApart =
    (c : Compilation) (marks : List Mark) (e f : ℕ) → IsCompiled c → InOrder c.graph.edges marks
    → e < length c.graph.edges → f < length c.graph.edges → e ≢ f → IsLive c.graph.edges marks e → IsLive c.graph.edges marks f
    → Apart (buffer_at c.graph.edges c.placement.offsets e) (buffer_at c.graph.edges c.placement.offsets f)

-- each buffer has a cell, and ends within the block
abbrev pub BuffersAreWithin : Type 0
BuffersAreWithin =
    (c : Compilation) (e : ℕ) → IsCompiled c → e < length c.graph.edges
    → (1 ≤ (edge_at c.graph.edges e).size)
    × ((buffer_at c.graph.edges c.placement.offsets e).start + (buffer_at c.graph.edges c.placement.offsets e).len ≤ c.placement.height)

-- what is out with a claimed node is live
abbrev pub LentBuffersAreLive : Type 0
LentBuffersAreLive =
    (c : Compilation) (marks : List Mark) (e : ℕ) → InOrder c.graph.edges marks → e < length c.graph.edges
    → IsLent c.graph.edges marks e → IsLive c.graph.edges marks e

-- and so is what holds the tokens that its tail gave
abbrev pub FullBuffersAreLive : Type 0
FullBuffersAreLive =
    (c : Compilation) (marks : List Mark) (e : ℕ) → IsFull c.graph.edges marks e → IsLive c.graph.edges marks e

-- the buffers lie in one block of a pool, which is as high as the placement; each node has a mark; what is claimed was claimed
-- in the order of the edges, and its leases are those of its buffers; a full buffer has as many tokens as cells
pub record KeepsBuffers (j : JobView) : Type 0 where
  pub compiled : IsCompiled j.compilation
  pub pooled : j.block.pooled ≡ true
  pub high : j.block.len ≡ j.compilation.placement.height
  pub one_each : length j.marks ≡ length j.compilation.graph.nodes
  pub order : InOrder j.compilation.graph.edges j.marks
  pub leases : (n : ℕ) (places : Places) → mark_at j.marks n ≡ Claimed places → AreLeases (cells_of j) n places
  pub full : (e : ℕ) → e < length j.compilation.graph.edges → IsFull j.compilation.graph.edges j.marks e
      → length (on_edge (values j.marks) (edge_at j.compilation.graph.edges e)) ≡ (edge_at j.compilation.graph.edges e).size

-- no cell of a job has two owners
abbrev pub CellsHaveOneOwner : Type 0
CellsHaveOneOwner = (c : JobCells) (marks : List Mark) (lent : ℕ → Option Places) → LendsBuffers c marks lent → OneOwnerEach lent
