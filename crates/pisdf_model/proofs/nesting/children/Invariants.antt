use Rattle.std.proofs.Common.{◌≡◌, take}
use Rattle.std.specs.List.{flat_map}
use Rattle.pisdf_model.specs.Nesting.{children_of}
use Rattle.pisdf_model.specs.declared.actor.Actor.{Actor}
use Rattle.pisdf_model.proofs.nesting.children.Given as goal

abbrev pub invariant-loop-actor : goal.invariant-loop-actor
invariant-loop-actor l = l.children.items ≡ flat_map (λ (a : Actor). children_of a.body) (take l.actor-index l.actor-items)
