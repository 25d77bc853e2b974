use Rattle.std.proofs.Common.{◌≡◌, map, take}
use Rattle.pisdf_model.specs.declared.graph.Interface.{Interface}
use Rattle.pisdf_program.proofs.load.names_of.Given as goal

abbrev pub invariant-loop-input : goal.invariant-loop-input
invariant-loop-input l = l.names.items ≡ map (λ (i : Interface). i.name) (take l.input-index l.inputs)
