use Rattle.std.proofs.Common.{◌≡◌, [], map, take}
use Rattle.std.specs.List.{flat_map}
use Rattle.kernel_gate.specs.Signed.{signature_view}
use Rattle.graph_format.specs.Kernels.{unfit_in_graph}
use Rattle.graph_reader.proofs.kernels.unfit_in_graphs.Given as goal

abbrev pub invariant-loop-graph : goal.invariant-loop-graph
invariant-loop-graph l = flat_map (unfit_in_graph (map signature_view l.signatures)) (take l.graph-index l.graphs) ≡ []
