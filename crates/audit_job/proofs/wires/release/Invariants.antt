use Rattle.std.proofs.Common.{◌≡◌, ℕ, ◌+◌, ◌≤◌, ◌<◌, drop, length}
use Rattle.std.specs.Prelude.{slice_index, vec_capacity}
use Rattle.audit_job.specs.Candidates.{Adds, IsReleased, waiting_in}
use Rattle.audit_job.specs.Waiting.{between}
use Rattle.audit_job.proofs.wires.release.Given as goal

abbrev pub invariant-loop-edge : goal.invariant-loop-edge
invariant-loop-edge l = record {
  each : (n : ℕ) → n < length l.initial.waits → slice_index l.waits n + between l.edges l.node n ≡ slice_index l.initial.waits n + between (drop l.edge-index l.edges) l.node n;
  enough : (n : ℕ) → n < length l.initial.waits → between (drop l.edge-index l.edges) l.node n ≤ slice_index l.waits n;
  added : Adds l.first (length l.initial.waits) (IsReleased l.initial.waits l.waits) l.initial.candidates l.candidates;
  room : length l.candidates.items + waiting_in l.waits ≤ vec_capacity l.candidates;
}
