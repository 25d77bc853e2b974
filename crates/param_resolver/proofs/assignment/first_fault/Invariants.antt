use Rattle.std.proofs.Common.{◌≡◌, drop}
use Rattle.pisdf_model.specs.Details.{from_number}
use Rattle.param_resolver.specs.Settled.{fault_found, faults_found}
use Rattle.param_resolver.proofs.assignment.first_fault.Given as goal

-- no fault stands before the place
abbrev pub invariant-loop-place : goal.invariant-loop-place
invariant-loop-place l = from_number l.place fault_found (drop l.place l.found) ≡ faults_found l.found
