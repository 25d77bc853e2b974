use Rattle.std.proofs.Common.{◌≡◌, ◌++◌, take}
use Rattle.std.specs.List.{flat_map}
use Rattle.pisdf_model.specs.ParamOrder.{places_of}
use Rattle.pisdf_model.proofs.named_params.add_args.Given as goal

abbrev pub invariant-loop-arg : goal.invariant-loop-arg
invariant-loop-arg l = l.places.items ≡ l.initial.places.items ++ flat_map places_of (take l.arg-index l.args)
