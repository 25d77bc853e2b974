use Rattle.std.proofs.Common.{◌≡◌, ◌++◌, take}
use Rattle.std.specs.List.{flat_map}
use Rattle.pisdf_model.specs.ParamOrder.{places_of}
use Rattle.pisdf_model.specs.declared.graph.Interface.{Interface}
use Rattle.pisdf_model.proofs.named_params.add_interfaces.Given as goal

abbrev pub invariant-loop-interface : goal.invariant-loop-interface
invariant-loop-interface l = l.places.items ≡ l.initial.places.items ++ flat_map (λ (i : Interface). places_of i.rate) (take l.interface-index l.interfaces)
