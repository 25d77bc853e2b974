use Rattle.std.proofs.Common.{◌≡◌, ◌++◌, drop, string_bytes}
use Rattle.pisdf_model.specs.Details.{from_number}
use Rattle.sdf_level.specs.declared.turn.Turn.{Turn}
use Rattle.job_report.specs.Plan.{order_row, order_rows}
use Rattle.job_report.proofs.plan.push_order.Given as goal

-- the rows so far, and those of the firings that are left, are all
abbrev pub invariant-loop-turn : goal.invariant-loop-turn
invariant-loop-turn l =
    string_bytes l.text ++ from_number l.turn-index (λ k (turn : Turn). order_row l.names turn) (drop l.turn-index l.order) ≡ string_bytes l.fn.text ++ order_rows l.names l.order
