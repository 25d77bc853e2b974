use Rattle.std.proofs.Common.{◌≡◌, ◌++◌, length}
use Rattle.graph_firing.specs.Nodes.Parts.{flat}
use Rattle.graph_firing.proofs.nodes.tracing.append_all.Given as goal

abbrev pub invariant-loop-trace : goal.invariant-loop-trace
invariant-loop-trace l = l.rows ++ flat l.waiting.items ≡ l.initial.rows ++ flat l.initial.waiting.items

abbrev pub decreases-loop-trace : goal.decreases-loop-trace
decreases-loop-trace l = length l.waiting.items
