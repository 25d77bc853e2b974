use Rattle.std.proofs.Common.{ℕ, ◌<◌, get_or}
use Rattle.audit_job.specs.Giving.{HasGiven}
use Rattle.audit_job.specs.declared.answer.Mark.TheVariants.{Free}
use Rattle.audit_job.proofs.configuring.all_gave.Given as goal

abbrev pub invariant-loop-item : goal.invariant-loop-item
invariant-loop-item l = (i : ℕ) → i < l.item → HasGiven (get_or l.marks i Free)
