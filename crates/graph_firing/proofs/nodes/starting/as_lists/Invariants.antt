use Rattle.std.proofs.Common.{◌≡◌}
use Rattle.sdf_level.specs.Lists.{lists_of}
use Rattle.graph_firing.proofs.nodes.starting.as_lists.Given as goal

abbrev pub invariant-loop-line : goal.invariant-loop-line
invariant-loop-line l = l.lists.items ≡ lists_of l.yielded
