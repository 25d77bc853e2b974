use Rattle.unfold_rates.proofs.Bounds.{AreSpansSoFar}
use Rattle.unfold_rates.proofs.cutting.bounds_of.Given as goal

abbrev pub invariant-loop-firing : goal.invariant-loop-firing
invariant-loop-firing l = AreSpansSoFar l.rows l.top l.actor l.firing l.start l.end l.bounds.items
