use Rattle.std.proofs.Common.{Some}
use Rattle.pisdf_model.specs.EndTimes.{times_at}
use Rattle.pisdf_model.specs.Wires.{port_wires}
use Rattle.pisdf_model.proofs.Walking.{Stands}
use Rattle.pisdf_model.proofs.wires.ports_stand.Given as goal

abbrev pub invariant-loop-port : goal.invariant-loop-port
invariant-loop-port l = Stands 0 (λ p name. port_wires (λ a p. times_at l.times (Some a, p)) l.number l.actor p name) l.port l.names
