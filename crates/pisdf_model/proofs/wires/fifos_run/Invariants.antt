use Rattle.pisdf_model.specs.Wires.{fifo_wires}
use Rattle.pisdf_model.proofs.Walking.{Stands}
use Rattle.pisdf_model.proofs.wires.fifos_run.Given as goal

abbrev pub invariant-loop-fifo : goal.invariant-loop-fifo
invariant-loop-fifo l = Stands 0 (λ n f. fifo_wires l.graphs l.graph f) l.fifo-index l.graph.fifos
