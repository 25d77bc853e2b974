use Rattle.std.proofs.Common.{length, refl}
use Rattle.memory_exclusion.proofs.Closing.{none_closed, closed_more, own_closure_of}
use Rattle.memory_exclusion.proofs.closure.close.Goals as goal

pub loop-ranked-init : goal.loop-ranked-init
loop-ranked-init c = rw c.requires.clear (none_closed c.args.edges.now c.args.order.now c.args.width (length c.args.rows.now))

pub returns : goal.returns
returns c =
    own_closure_of c.args.edges.now c.args.order.now c.args.width c.loop-ranked.rows c.requires.in_order c.requires.wide c.loop-ranked.ranked-index c.loop-ranked-test.false c.loop-ranked.invariant

pub loop-ranked-preserved : goal.loop-ranked-preserved
loop-ranked-preserved c =
    closed_more c.args.edges.now c.args.order.now c.args.width c.loop-ranked.rows c.requires.in_order c.requires.wide c.loop-ranked.ranked-index _ c.add_row.new.words c.add_bit.new.words c.loop-ranked-test.true refl (c.requires.in_order.inside c.loop-ranked.ranked-index (0, 0) c.loop-ranked-test.true) c.loop-ranked.invariant c.add_row.ensures c.add_bit.ensures
