use Rattle.std.proofs.Common.{◌≡◌, ◌++◌, take}
use Rattle.std.specs.List.{flat_map}
use Rattle.pisdf_model.specs.ParamOrder.{config_places}
use Rattle.pisdf_model.specs.declared.actor.Actor.{Actor}
use Rattle.pisdf_model.proofs.named_params.add_configs.Given as goal

abbrev pub invariant-loop-actor : goal.invariant-loop-actor
invariant-loop-actor l = l.places.items ≡ l.initial.places.items ++ flat_map (λ (a : Actor). config_places a.body) (take l.actor-index l.actors)
