use Rattle.std.proofs.Common.{◌≡◌, map, take}
use Rattle.pisdf_model.specs.declared.graph.Interface.{Interface}
use Rattle.job_report.proofs.names.sink_names.Given as goal

abbrev pub invariant-loop-output : goal.invariant-loop-output
invariant-loop-output l = l.names.items ≡ map (λ (x : Interface). x.name) (take l.output-index l.outputs)
