use Rattle.std.proofs.Common.{◌≡◌, ℕ, ◌<◌, None}
use Rattle.audit_job.specs.Ending.{refusal_in}
use Rattle.audit_job.specs.Marks.{answers}
use Rattle.audit_job.proofs.ending.first_refused.Given as goal

abbrev pub invariant-loop-item : goal.invariant-loop-item
invariant-loop-item l = (i : ℕ) → i < l.item → refusal_in (answers l.marks i) ≡ None
