use Rattle.std.proofs.Common.{◌≡◌, ◌≤◌, length}
use Rattle.std.specs.List.{All}
use Rattle.single_rate.specs.Sequence.{AreBelow}
use Rattle.single_rate.proofs.sequence.leave.Given as goal

abbrev pub invariant-loop-left : goal.invariant-loop-left
invariant-loop-left l =
    (l.left ≤ length l.edges) × (length l.counts ≡ length l.initial.counts)
    × All (AreBelow (length l.initial.counts)) l.ready.items × All (AreBelow (length l.edges)) l.order.items

abbrev pub decreases-loop-left : goal.decreases-loop-left
decreases-loop-left l = l.left
