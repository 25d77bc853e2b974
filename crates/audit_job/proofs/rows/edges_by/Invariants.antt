use Rattle.std.proofs.Common.{take}
use Rattle.sdf_level.specs.Lists.{lists_of}
use Rattle.audit_job.specs.Rows.{AreRows}
use Rattle.audit_job.proofs.rows.edges_by.Given as goal

-- the lists of the edges so far
abbrev pub invariant-loop-edge : goal.invariant-loop-edge
invariant-loop-edge l = AreRows l.side l.nodes (take l.edge-index l.edges) (lists_of l.rows.items)
