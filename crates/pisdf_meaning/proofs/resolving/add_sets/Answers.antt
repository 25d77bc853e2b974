use Rattle.pisdf_meaning.proofs.Setting.{either_over, pairs_end}
use Rattle.std.proofs.Common.{length}
use Rattle.pisdf_meaning.proofs.resolving.add_sets.Goals as goal

pub returns : goal.returns
returns c = pairs_end c.loop-i.sets.items _ c.args.places.now c.args.values.now c.loop-i.i (either_over (length c.args.places.now) (length c.args.values.now) c.loop-i.i c.min-count.result c.min-count.ensures c.loop-i-test.false) c.loop-i.invariant
