use Rattle.std.proofs.Common.{◌≡◌, ◌++◌, drop, string_bytes}
use Rattle.pisdf_model.specs.Details.{from_number}
use Rattle.job_report.specs.Plan.{repetition_row, repetition_rows}
use Rattle.job_report.proofs.plan.push_repetitions.Given as goal

-- the rows so far, and those of the actors that are left, are all
abbrev pub invariant-loop-actor : goal.invariant-loop-actor
invariant-loop-actor l =
    string_bytes l.text ++ from_number l.actor (λ a count. repetition_row l.names a count) (drop l.actor l.counts) ≡ string_bytes l.fn.text ++ repetition_rows l.names l.counts
