-- What the calls of a job give.
use Rattle.std.specs.Prelude.{◌≡◌, ℕ, ℤ, ◌<◌, length, Option, Some, None, Result, Ok, Err, slice_get, slice_index}
use Rattle.split_block.specs.View.{LeasePlace}
use Rattle.kernel_gate.specs.Value.{FrameView, Places}
use Rattle.kernel_gate.specs.declared.fault.KernelFault.{KernelFault}
use Rattle.sdf_level.specs.LevelRun.{Ended}
use Rattle.job_flow.specs.Outcomes.{Failure, failure, ended}
use Rattle.one_job.specs.Marks.{Mark, Finished, Failed, values}
use Rattle.one_job.specs.Places.{edge_at}
use Rattle.one_job.specs.View.{JobView, graph_of}
use Rattle.one_job.specs.declared.job.JobEnd.{JobEnd}
use Rattle.one_job.specs.declared.job.JobEnd.TheVariants.{Done, Fault}

-- the lease of an edge's buffer
abbrev pub lease_of : JobView → ℕ → LeasePlace
lease_of j e = record { block = j.block; start = slice_index j.compilation.placement.offsets e; len = (edge_at j.compilation.graph.edges e).size }

-- the ports of node n where an edge enters or leaves have the leases of the edges' buffers
pub record LieAtBuffers (j : JobView) (n : ℕ) (places : Places) : Type 0 where
  pub inputs : (e : ℕ) → e < length j.compilation.graph.edges → (edge_at j.compilation.graph.edges e).head ≡ n
      → slice_get places.inputs (edge_at j.compilation.graph.edges e).head_port ≡ Some (lease_of j e)
  pub outputs : (e : ℕ) → e < length j.compilation.graph.edges → (edge_at j.compilation.graph.edges e).tail ≡ n
      → slice_get places.outputs (edge_at j.compilation.graph.edges e).tail_port ≡ Some (lease_of j e)

-- how a node is marked whose frame comes back with this result
abbrev pub finished_with : FrameView → Result (Unit {0}) KernelFault → Mark
finished_with frame (Ok done) = Finished frame.outputs
finished_with frame (Err fault) = Failed fault.code

-- the first fault, else the tokens at the sinks and those left on the links
abbrev pub end_with : Option (Failure ℕ) → Ended ℤ → JobEnd
end_with None end = Done end.outs end.left
end_with (Some first) end = Fault first.node first.fault

-- how a job ends whose nodes are marked so
abbrev pub end_of : JobView → JobEnd
end_of j = end_with (failure (graph_of j) (values j.marks)) (ended (graph_of j) (values j.marks))
