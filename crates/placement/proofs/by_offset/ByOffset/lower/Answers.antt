use Rattle.std.proofs.Common.{reverse, arith}
use Rattle.placement.proofs.Cut.{low_below}
use Rattle.placement.proofs.by_offset.ByOffset.lower.Goals as goal

pub returns-then-last-offset-clause-low : goal.returns-then-last-offset-clause-low
returns-then-last-offset-clause-low c =
    let length_now = c.len-in-loop-self.ensures in
    let length_tested = c.len.ensures in
    let some = c.loop-self-test.true in
    let whole = c.loop-self.self.low.ok in
    low_below c.loop-self.self.low.items (reverse c.loop-self.self.high.items) c.args.offset (rw c.loop-self.invariant.same c.requires.rising) c.index-last.result.now _ (omega arith) c.index-last.ensures c.if-last-offset.true
