use Rattle.std.proofs.Common.{◌≡◌, ◌+◌, ◌-◌, ◌≤◌, length, vec_capacity}
use Rattle.one_job.specs.Places.{buffer_at}
use Rattle.one_job.proofs.TakingSteps.{HasTaken}
use Rattle.one_job.proofs.leases.take_ports.Given as goal

abbrev pub invariant-loop-port : goal.invariant-loop-port
invariant-loop-port l = record {
  so_far : HasTaken (buffer_at l.edges l.offsets) (length l.edges) l.ports l.fn.pool l.fn.leases.items l.port-index l.pool l.leases.items;
  room : length l.leases.items + (length l.ports - l.port-index) ≤ vec_capacity l.leases;
  capacity : vec_capacity l.leases ≡ vec_capacity l.fn.leases;
}
