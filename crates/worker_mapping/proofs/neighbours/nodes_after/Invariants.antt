use Rattle.std.proofs.Common.{take}
use Rattle.sdf_level.specs.Lists.{lists_of}
use Rattle.worker_mapping.specs.Neighbours.{AreAfter}
use Rattle.worker_mapping.proofs.neighbours.nodes_after.Given as goal

-- the lists of the edges so far
abbrev pub invariant-loop-edge : goal.invariant-loop-edge
invariant-loop-edge l = AreAfter l.nodes (take l.edge-index l.edges) (lists_of l.after.items)
