use Rattle.graph_firing.specs.Nodes.Parts.{NoneWaits}
use Rattle.graph_firing.proofs.nodes.frames.spend_held.Given as goal

abbrev pub invariant-loop-held : goal.invariant-loop-held
invariant-loop-held l = NoneWaits l.all.items

abbrev pub decreases-loop-held : goal.decreases-loop-held
decreases-loop-held l = goal.left-loop-held l
