use Rattle.std.proofs.Common.{◌≡◌, ◌++◌, ℕ, List, drop, string_bytes}
use Rattle.pisdf_model.specs.Details.{from_number}
use Rattle.job_report.specs.Memory.{worker_rows, orders_rows}
use Rattle.job_report.proofs.memory.push_orders.Given as goal

-- the rows so far, and those of the workers that are left, are all
abbrev pub invariant-loop-worker : goal.invariant-loop-worker
invariant-loop-worker l =
    string_bytes l.text ++ from_number l.worker (λ w (nodes : List ℕ). worker_rows w nodes) (drop l.worker l.orders) ≡ string_bytes l.fn.text ++ orders_rows l.orders
