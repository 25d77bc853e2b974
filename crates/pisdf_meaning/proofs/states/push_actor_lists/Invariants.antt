use Rattle.std.proofs.Common.{◌≡◌, ◌++◌, map, take}
use Rattle.pisdf_model.specs.Hold.{actor_state, initial_to}
use Rattle.pisdf_model.specs.declared.actor.Actor.{Actor}
use Rattle.pisdf_meaning.proofs.states.push_actor_lists.Given as goal

abbrev pub invariant-loop-actor : goal.invariant-loop-actor
invariant-loop-actor l = l.lists.items ≡ l.initial.lists.items ++ map (λ (a : Actor). actor_state (initial_to l.graphs l.levels) a.body) (take l.actor-index l.actors)
