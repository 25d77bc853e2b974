use Rattle.std.proofs.Common.{arith}
use Rattle.placement.specs.Progress.{placed_in}
use Rattle.placement.proofs.Fitting.{all_placed, valid_from_tight}
use Rattle.placement.proofs.placing.place_in_order.Goals as goal

pub returns-clause-tight : goal.returns-clause-tight
returns-clause-tight g c =
    let end = c.loop-place.auto.place-end in
    rw (c.end.ensures.0, c.end.ensures.1) (all_placed c.args.sizes.now (g.X.Exclusion.excludes c.args.exclusion.now) c.args.order.now c.requires.order c.loop-place.place (placed_in c.loop-place.progress) c.loop-place.progress.offsets.items c.loop-place.progress.height (omega arith) (omega arith) c.loop-place.invariant.so_far)

pub returns-clause-valid : goal.returns-clause-valid
returns-clause-valid g c = valid_from_tight c.args.sizes.now (g.X.Exclusion.excludes c.args.exclusion.now) c.end.result.offsets c.end.result.height (returns-clause-tight g c)
