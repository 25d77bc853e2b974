use Rattle.audit_job.proofs.Ordered.{first_so}
use Rattle.audit_job.proofs.offering.goes_first.Goals as goal

pub returns : goal.returns
returns c =
    let one = c.args.one.now in
    let other = c.args.other.now in
    rw (c.is_lt.ensures, c.then-order.ensures, c.then.ensures, c.cmp.ensures, c.compare_urgency.ensures, c.cmp-2.ensures)
    (first_so one.away other.away one.urgency other.urgency one.item other.item)
