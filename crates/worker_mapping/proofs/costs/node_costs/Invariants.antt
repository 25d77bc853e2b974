use Rattle.std.proofs.Common.{take}
use Rattle.worker_mapping.specs.Costs.{AreCosts}
use Rattle.worker_mapping.proofs.costs.node_costs.Given as goal

-- the costs by the edges so far
abbrev pub invariant-loop-edge : goal.invariant-loop-edge
invariant-loop-edge l = AreCosts l.nodes (take l.edge-index l.edges) l.costs.items
