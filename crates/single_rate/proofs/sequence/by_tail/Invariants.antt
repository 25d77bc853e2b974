use Rattle.single_rate.specs.Sequence.{AreLeaving}
use Rattle.single_rate.proofs.sequence.by_tail.Given as goal

abbrev pub invariant-loop-i : goal.invariant-loop-i
invariant-loop-i l = AreLeaving l.nodes l.i l.first.items l.next.items
