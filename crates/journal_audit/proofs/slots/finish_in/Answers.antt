use Rattle.std.proofs.Common.{Some}
use Rattle.audit_job.specs.Marking.{Finishes}
use Rattle.journal_audit.specs.Slots.{FinishesSlot}
use Rattle.journal_audit.proofs.Openings.{on_ok}
use Rattle.journal_audit.proofs.Rows.{finishes_slot}
use Rattle.journal_audit.proofs.slots.finish_in.Goals as goal

pub returns : goal.returns
returns g c =
    let graphs = c.args.graphs.now.graphs in
    let row = c.in-Some.row in
    let job = c.finish.new.job in
    on_ok c.finish.result (Finishes graphs c.args.workers c.args.item row.job job) (FinishesSlot graphs c.args.workers c.args.item c.args.slot.now (Some record { job = job; place = row.place }))
    (λ finishes. finishes_slot graphs c.args.workers c.args.item c.args.slot.now row job c.in-Some.is finishes) c.finish.ensures
