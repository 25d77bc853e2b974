use Rattle.std.proofs.Common.{◌≡◌, map, take}
use Rattle.pisdf_model.specs.declared.param.Param.{Param}
use Rattle.graph_writer.proofs.names.param_names.Given as goal

abbrev pub invariant-loop-param : goal.invariant-loop-param
invariant-loop-param l = l.names.items ≡ map (λ (p : Param). p.name) (take l.param-index l.params)
