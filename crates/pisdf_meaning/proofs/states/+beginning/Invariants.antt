use Rattle.std.proofs.Common.{◌≡◌, ◌+◌, ◌*◌, ◌++◌, map, take}
use Rattle.pisdf_model.specs.Hold.{actor_state, in_line, initial_to}
use Rattle.pisdf_model.specs.declared.actor.Actor.{Actor}
use Rattle.pisdf_meaning.proofs.states.+beginning.Given as goal

abbrev pub decreases-push_state : goal.decreases-push_state
decreases-push_state l = 3 * l.levels

abbrev pub decreases-push_actor_states : goal.decreases-push_actor_states
decreases-push_actor_states l = 3 * l.levels + 2

abbrev pub decreases-push_actor_state : goal.decreases-push_actor_state
decreases-push_actor_state l = 3 * l.levels + 1

-- the states of the actors so far
abbrev pub invariant-push_actor_states-loop-actor : goal.invariant-push_actor_states-loop-actor
invariant-push_actor_states-loop-actor l = l.line.items ≡ l.initial.line.items ++ in_line (map (λ (a : Actor). actor_state (initial_to l.graphs l.levels) a.body) (take l.actor-index l.actors))
