use Rattle.std.proofs.Common.{◌≡◌, map, take}
use Rattle.pisdf_model.specs.ParamOrder.{refers}
use Rattle.pisdf_model.specs.declared.param.Param.{Param}
use Rattle.pisdf_model.proofs.named_params.references.Given as goal

abbrev pub invariant-loop-param : goal.invariant-loop-param
invariant-loop-param l = l.references.items ≡ map (λ (p : Param). refers p.kind) (take l.param-index l.params)
