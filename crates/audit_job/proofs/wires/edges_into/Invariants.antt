use Rattle.std.proofs.Common.{◌≡◌, ◌+◌, ◌≤◌, drop}
use Rattle.job_flow.specs.Frames.{edges_into}
use Rattle.audit_job.proofs.wires.edges_into.Given as goal

abbrev pub invariant-loop-edge : goal.invariant-loop-edge
invariant-loop-edge l = record { rest : l.count + edges_into (drop l.edge-index l.edges) l.node ≡ edges_into l.edges l.node; few : l.count ≤ l.edge-index }
