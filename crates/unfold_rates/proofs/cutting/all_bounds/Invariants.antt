use Rattle.level_laws.specs.Unfolded.{multiplied}
use Rattle.sdf_level.specs.Lists.{lists_of}
use Rattle.unfold_rates.proofs.Bounds.{ArePickedSoFar}
use Rattle.unfold_rates.proofs.cutting.all_bounds.Given as goal

abbrev pub invariant-loop-place : goal.invariant-loop-place
invariant-loop-place l = ArePickedSoFar l.rows l.top (multiplied l.times l.counts) l.place l.start (lists_of l.all.items)
