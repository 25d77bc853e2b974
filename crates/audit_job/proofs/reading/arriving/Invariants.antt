use Rattle.std.proofs.Common.{◌≡◌, ℕ, ◌<◌, [], length, get_or, take}
use Rattle.job_flow.specs.Frames as flow
use Rattle.sdf_level.specs.Lists.{lists_of}
use Rattle.audit_job.specs.Flowing.{results_of}
use Rattle.audit_job.specs.Marks.{answers}
use Rattle.audit_job.proofs.reading.arriving.Given as goal

abbrev pub invariant-loop-edge : goal.invariant-loop-edge
invariant-loop-edge l = record {
  many : length (lists_of l.lines.items) ≡ l.ports;
  each : (port : ℕ) → port < l.ports → get_or (lists_of l.lines.items) port [] ≡ flow.arriving (take l.edge-index l.edges) (flow.on (results_of l.nodes l.keeps (answers l.marks)) (take l.edge-index l.edges)) l.node port;
}
