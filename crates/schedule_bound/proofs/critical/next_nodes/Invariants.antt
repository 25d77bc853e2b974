use Rattle.std.proofs.Common.{take}
use Rattle.schedule_bound.specs.Critical.{AreNext}
use Rattle.schedule_bound.proofs.critical.next_nodes.Given as goal

abbrev pub invariant-loop-edge : goal.invariant-loop-edge
invariant-loop-edge l = AreNext l.nodes (take l.edge-index l.edges) l.costs l.priority l.next.items
