use Rattle.std.proofs.Common.{None}
use Rattle.pisdf_model.specs.EndTimes.{times_at}
use Rattle.pisdf_model.specs.Wires.{interface_wires}
use Rattle.pisdf_model.proofs.Walking.{Stands}
use Rattle.pisdf_model.proofs.wires.interfaces_stand.Given as goal

abbrev pub invariant-loop-place : goal.invariant-loop-place
invariant-loop-place l = Stands 0 (λ i name. interface_wires (λ i. times_at l.times (None, i)) i name) l.place l.names
