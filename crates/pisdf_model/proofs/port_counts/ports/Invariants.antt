use Rattle.std.proofs.Common.{eqb}
use Rattle.pisdf_model.specs.Ports.{graph_ports}
use Rattle.pisdf_model.proofs.Walking.{Stands}
use Rattle.pisdf_model.proofs.port_counts.ports.Given as goal

abbrev pub invariant-loop-number : goal.invariant-loop-number
invariant-loop-number g l = Stands 0 (λ n x. graph_ports (g.C.Counts.fits l.counts) l.graphs.graphs (eqb n l.graphs.top) x) l.number l.graphs.graphs
