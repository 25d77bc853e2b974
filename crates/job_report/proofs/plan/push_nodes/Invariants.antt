use Rattle.std.proofs.Common.{◌≡◌, ◌++◌, drop, string_bytes, slice_index}
use Rattle.pisdf_model.specs.Details.{from_number}
use Rattle.sdf_level.specs.declared.node.Node.{Node}
use Rattle.job_report.specs.Plan.{node_row, node_rows}
use Rattle.job_report.proofs.plan.push_nodes.Given as goal

-- the rows so far, and those of the nodes that are left, are all
abbrev pub invariant-loop-id : goal.invariant-loop-id
invariant-loop-id l =
    string_bytes l.text ++ from_number l.id (λ n (node : Node). node_row l.names (slice_index l.homes n) (slice_index l.priorities n) n node) (drop l.id l.nodes)
    ≡ string_bytes l.fn.text ++ node_rows l.names l.homes l.priorities l.nodes
