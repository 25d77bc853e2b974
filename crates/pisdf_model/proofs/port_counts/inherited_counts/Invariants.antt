use Rattle.std.proofs.Common.{◌≡◌, take}
use Rattle.pisdf_model.specs.Ports.{inherited_counts}
use Rattle.pisdf_model.proofs.port_counts.inherited_counts.Given as goal

abbrev pub invariant-loop-graph : goal.invariant-loop-graph
invariant-loop-graph l = l.inherited.items ≡ inherited_counts (take l.graph-index l.graphs)
