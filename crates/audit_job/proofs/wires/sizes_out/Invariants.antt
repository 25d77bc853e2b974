use Rattle.std.proofs.Common.{◌≡◌, ◌++◌, drop}
use Rattle.job_flow.specs.Frames.{sizes_out}
use Rattle.audit_job.proofs.wires.sizes_out.Given as goal

abbrev pub invariant-loop-edge : goal.invariant-loop-edge
invariant-loop-edge l = l.sizes.items ++ sizes_out (drop l.edge-index l.edges) l.node ≡ sizes_out l.edges l.node
