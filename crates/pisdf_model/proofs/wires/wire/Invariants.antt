use Rattle.pisdf_model.specs.Wires.{graph_wires}
use Rattle.pisdf_model.proofs.Walking.{Stands}
use Rattle.pisdf_model.proofs.wires.wire.Given as goal

abbrev pub invariant-loop-graph : goal.invariant-loop-graph
invariant-loop-graph l = Stands 0 (λ n g. graph_wires l.graphs.graphs g) l.graph-index l.graphs.graphs
