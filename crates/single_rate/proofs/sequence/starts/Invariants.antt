use Rattle.std.proofs.Common.{length}
use Rattle.std.specs.List.{All}
use Rattle.single_rate.specs.Sequence.{AreBelow}
use Rattle.single_rate.proofs.sequence.starts.Given as goal

abbrev pub invariant-loop-node : goal.invariant-loop-node
invariant-loop-node l = All (AreBelow (length l.counts)) l.nodes.items
