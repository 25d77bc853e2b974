use Rattle.nested_jobs.specs.Marks.{Open}
use Rattle.journal_audit.proofs.Rows.{marks_slot}
use Rattle.journal_audit.proofs.slots.open_in.Goals as goal

pub returns : goal.returns
returns c = marks_slot c.args.item (Open c.args.called.value) c.args.slot.now c.in-Some.row c.mark_open.new.job c.in-Some.is c.mark_open.ensures
