use Rattle.placement.proofs.Ranking.{WaitingSoFar}
use Rattle.placement.proofs.order.placing_order.Given as goal

abbrev pub invariant-loop-number : goal.invariant-loop-number
invariant-loop-number l = WaitingSoFar l.sizes l.waiting.items l.number
