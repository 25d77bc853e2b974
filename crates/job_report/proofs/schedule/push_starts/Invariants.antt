use Rattle.std.proofs.Common.{◌≡◌, ◌++◌, drop, string_bytes}
use Rattle.pisdf_model.specs.Details.{from_number}
use Rattle.schedule_bound.specs.declared.slots.Slot.{Slot}
use Rattle.job_report.specs.Schedule.{start_row, start_rows}
use Rattle.job_report.proofs.schedule.push_starts.Given as goal

-- the rows so far, and those of the nodes that are left, are all
abbrev pub invariant-loop-node : goal.invariant-loop-node
invariant-loop-node l =
    string_bytes l.text ++ from_number l.node (λ n (slot : Slot). start_row n slot) (drop l.node l.slots) ≡ string_bytes l.fn.text ++ start_rows l.slots
