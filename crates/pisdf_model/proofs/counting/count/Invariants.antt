use Rattle.pisdf_model.specs.Count.{graph_counts}
use Rattle.pisdf_model.proofs.Walking.{Stands}
use Rattle.pisdf_model.proofs.counting.count.Given as goal

abbrev pub invariant-loop-number : goal.invariant-loop-number
invariant-loop-number l = Stands 0 (graph_counts l.graphs.graphs) l.number l.graphs.graphs
