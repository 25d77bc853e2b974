use Rattle.std.proofs.Common.{length}
use Rattle.worker_mapping.specs.Graph.{AreThere, Rise}
use Rattle.worker_mapping.proofs.Priorities.{AreRanked}
use Rattle.worker_mapping.proofs.priority.priorities.Given as goal

-- the nodes of greater rank have their priorities
abbrev pub invariant-loop-rank : goal.invariant-loop-rank
invariant-loop-rank l = (t : AreThere l.nodes l.edges) (r : Rise l.ranks l.edges) → AreRanked record { nodes = l.nodes; edges = l.edges; costs = l.costs } l.ranks t r l.order.items l.priority.items

abbrev pub decreases-loop-rank : goal.decreases-loop-rank
decreases-loop-rank l = length l.order.items
