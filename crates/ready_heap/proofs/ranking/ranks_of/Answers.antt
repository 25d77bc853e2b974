use Rattle.ready_heap.proofs.Ordering.{ranks_written}
use Rattle.ready_heap.proofs.ranking.ranks_of.Goals as goal

pub returns : goal.returns
returns c = ranks_written c.args.numbers.now c.loop-rank.ranks.items c.loop-rank.rank c.loop-rank-test.false c.requires.listing c.loop-rank.invariant.0 c.loop-rank.invariant.1
