use Rattle.std.proofs.Common.{length}
use Rattle.firing_board.proofs.OfTable.AskedOrder.{before_so}
use Rattle.firing_board.proofs.table.pick.goes_before.Goals as goal

pub returns : goal.returns
returns c =
    let job = c.args.job.now in
    let offer = c.args.offer.now in
    let other = c.args.other.now in
    let rest = c.args.rest.now in
    rw (c.is_lt.ensures, c.then-order.ensures, c.then-3.ensures, c.then-2.ensures, c.then.ensures, c.cmp.ensures, c.cmp-2.ensures, c.compare_urgency.ensures, c.cmp-3.ensures, c.cmp-4.ensures, c.items.ensures, c.items-2.ensures, c.items-3.ensures, c.items-4.ensures)
    (before_so (length job.place) (length other.place) offer.away rest.away offer.urgency rest.urgency job.steps other.steps offer.item rest.item)
