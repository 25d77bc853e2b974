use Rattle.pisdf_model.specs.InterfaceWires.{fifo_misplaced}
use Rattle.pisdf_model.proofs.Walking.{Stands}
use Rattle.pisdf_model.proofs.interface_wires.graph_placed.Given as goal

abbrev pub invariant-loop-number : goal.invariant-loop-number
invariant-loop-number l = Stands 0 (λ i f. fifo_misplaced l.graph i f) l.number l.graph.fifos
