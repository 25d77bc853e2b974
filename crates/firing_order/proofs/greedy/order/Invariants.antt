use Rattle.firing_order.specs.Lacking.{AreLacking}
use Rattle.firing_order.proofs.Progress.{HasFired}
use Rattle.firing_order.proofs.Remaining.{remaining}
use Rattle.firing_order.proofs.greedy.order.Given as goal

abbrev pub invariant-loop-actor : goal.invariant-loop-actor
invariant-loop-actor l = record {
  counted : AreLacking l.links.items l.fired.items l.lacking.items;
  fired : HasFired l.level l.counts l.fired.items l.turns.items;
}

abbrev pub decreases-loop-actor : goal.decreases-loop-actor
decreases-loop-actor l = remaining l.counts l.fired.items
