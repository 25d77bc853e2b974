use Rattle.placement.specs.Progress.{HasPlaced}
use Rattle.placement.proofs.placing.place_in_order.Given as goal

abbrev pub invariant-loop-place : goal.invariant-loop-place
invariant-loop-place g l = HasPlaced l.sizes (g.X.Exclusion.excludes l.exclusion) (g.X.Exclusion.range l.exclusion) l.order l.place l.progress
