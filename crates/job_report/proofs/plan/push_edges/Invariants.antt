use Rattle.std.proofs.Common.{◌≡◌, ◌++◌, drop, string_bytes, slice_index}
use Rattle.pisdf_model.specs.Details.{from_number}
use Rattle.sdf_level.specs.declared.single_rate.Edge.{Edge}
use Rattle.job_report.specs.Plan.{edge_row, edge_rows}
use Rattle.job_report.proofs.plan.push_edges.Given as goal

-- the rows so far, and those of the edges that are left, are all
abbrev pub invariant-loop-id : goal.invariant-loop-id
invariant-loop-id l =
    string_bytes l.text ++ from_number l.id (λ e (edge : Edge). edge_row (slice_index l.offsets e) e edge) (drop l.id l.edges) ≡ string_bytes l.fn.text ++ edge_rows l.offsets l.edges
