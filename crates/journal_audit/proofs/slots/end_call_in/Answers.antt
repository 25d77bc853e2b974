use Rattle.nested_jobs.specs.Marks.{Done}
use Rattle.audit_job.specs.Marks.{answer_of}
use Rattle.journal_audit.proofs.Rows.{marks_slot}
use Rattle.journal_audit.proofs.slots.end_call_in.Goals as goal

pub returns : goal.returns
returns c = marks_slot c.args.item (Done (answer_of c.args.answer)) c.args.slot.now c.in-Some.row c.end_call.new.job c.in-Some.is c.end_call.ensures
