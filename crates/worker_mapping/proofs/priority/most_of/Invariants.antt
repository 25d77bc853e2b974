use Rattle.std.proofs.Common.{◌≡◌, map, take, slice_index}
use Rattle.worker_mapping.specs.Graph.{greatest}
use Rattle.worker_mapping.proofs.priority.most_of.Given as goal

abbrev pub invariant-loop-node : goal.invariant-loop-node
invariant-loop-node l = l.most ≡ greatest (map (slice_index l.priority) (take l.node-index l.nodes))
