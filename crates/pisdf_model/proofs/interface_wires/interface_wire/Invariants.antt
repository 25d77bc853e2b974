use Rattle.pisdf_model.specs.InterfaceWires.{graph_misplaced}
use Rattle.pisdf_model.proofs.Walking.{Stands}
use Rattle.pisdf_model.proofs.interface_wires.interface_wire.Given as goal

abbrev pub invariant-loop-graph : goal.invariant-loop-graph
invariant-loop-graph l = Stands 0 (λ n g. graph_misplaced g) l.graph-index l.graphs.graphs
