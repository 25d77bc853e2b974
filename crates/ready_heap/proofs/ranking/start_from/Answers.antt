use Rattle.ready_heap.proofs.Ordering.{start_here}
use Rattle.ready_heap.proofs.ranking.start_from.Goals as goal

pub returns-then-rows-rank : goal.returns-then-rows-rank
returns-then-rows-rank c = start_here c.args.rows.now c.args.group c.loop-rank.rank _ c.loop-rank-test.true c.requires.rise c.loop-rank.invariant c.if-rows-rank.true
