use Rattle.std.proofs.Common.{◌≡◌, length}
use Rattle.std.specs.List.{All}
use Rattle.single_rate.specs.Sequence.{AreBelow}
use Rattle.single_rate.proofs.sequence.in_order.Given as goal

abbrev pub invariant-loop-at : goal.invariant-loop-at
invariant-loop-at l = (length l.counts.items ≡ l.nodes) × All (AreBelow l.nodes) l.ready.items × All (AreBelow (length l.edges)) l.order.items
