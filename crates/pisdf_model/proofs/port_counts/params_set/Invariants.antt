use Rattle.pisdf_model.specs.Ports.{param_ports}
use Rattle.pisdf_model.proofs.Walking.{Stands}
use Rattle.pisdf_model.proofs.port_counts.params_set.Given as goal

abbrev pub invariant-loop-place : goal.invariant-loop-place
invariant-loop-place l = Stands 0 (λ i p. param_ports l.is_top l.sets i p) l.place l.params
