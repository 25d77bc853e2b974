use Rattle.std.proofs.Common.{◌≡◌, take}
use Rattle.graph_firing.proofs.nodes.calling.read_from.Given as goal

abbrev pub invariant-loop-port : goal.invariant-loop-port
invariant-loop-port l = l.lists.items ≡ take l.port l.frame.inputs
