use Rattle.nested_jobs.specs.Marks.{Busy}
use Rattle.journal_audit.proofs.Rows.{marks_slot}
use Rattle.journal_audit.proofs.slots.claim_in.Goals as goal

pub returns : goal.returns
returns c = marks_slot c.args.item Busy c.args.slot.now c.in-Some.row c.claim.new.job c.in-Some.is c.claim.ensures
