use Rattle.std.proofs.Common.{◌≡◌, ◌++◌, drop}
use Rattle.pisdf_model.specs.Details.{from_number}
use Rattle.pisdf_model.specs.declared.graph.Interface.{Interface}
use Rattle.job_report.specs.Names.{input_source, input_sources}
use Rattle.job_report.proofs.names.push_inputs.Given as goal

-- the names so far, and those of the inputs that are left, are all
abbrev pub invariant-loop-number : goal.invariant-loop-number
invariant-loop-number l =
    l.names.items ++ from_number l.number (λ i (input : Interface). input_source l.graph i input) (drop l.number l.graph.inputs) ≡ l.fn.names.items ++ input_sources l.graph
