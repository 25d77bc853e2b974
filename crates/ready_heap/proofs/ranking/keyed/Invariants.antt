use Rattle.ready_heap.specs.Ranks.{AreKeyed}
use Rattle.ready_heap.proofs.ranking.keyed.Given as goal

abbrev pub invariant-loop-n : goal.invariant-loop-n
invariant-loop-n l = AreKeyed l.groups l.keys l.n l.rows.items
