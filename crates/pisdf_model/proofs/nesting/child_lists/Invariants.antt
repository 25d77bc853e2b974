use Rattle.std.proofs.Common.{◌≡◌, map, take}
use Rattle.pisdf_model.specs.Nesting.{children}
use Rattle.pisdf_model.proofs.nesting.child_lists.Given as goal

abbrev pub invariant-loop-graph : goal.invariant-loop-graph
invariant-loop-graph l = l.child_lists.items ≡ map children (take l.graph-index l.graphs)
