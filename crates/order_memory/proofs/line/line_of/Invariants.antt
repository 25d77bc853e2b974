use Rattle.std.proofs.Common.{◌-◌, length}
use Rattle.order_memory.proofs.Following.{Follows}
use Rattle.order_memory.proofs.line.line_of.Given as goal

abbrev pub invariant-loop-node : goal.invariant-loop-node
invariant-loop-node l = Follows l.nodes l.edges l.line.items l.waiting.items l.open_nodes.keys

abbrev pub decreases-loop-node : goal.decreases-loop-node
decreases-loop-node l = l.nodes - length l.line.items
