use Rattle.std.proofs.Common.{◌≡◌, ℕ, ◌+◌, ◌≤◌, ◌<◌, drop, length, slice_index}
use Rattle.job_flow.specs.Frames.{edges_into}
use Rattle.audit_job.proofs.wires.edge_counts.Given as goal

abbrev pub invariant-loop-edge : goal.invariant-loop-edge
invariant-loop-edge l = record {
  one_each : length l.counts.items ≡ l.nodes;
  each : (n : ℕ) → n < l.nodes → slice_index l.counts.items n + edges_into (drop l.edge-index l.edges) n ≡ edges_into l.edges n;
  few : (n : ℕ) → slice_index l.counts.items n ≤ l.edge-index;
}
