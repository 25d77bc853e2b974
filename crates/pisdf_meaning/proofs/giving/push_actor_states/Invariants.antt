use Rattle.std.proofs.Common.{◌≡◌, ◌≤◌, ◌++◌, List, drop}
use Rattle.pisdf_model.specs.declared.graph.Graph.{Graph}
use Rattle.pisdf_meaning.specs.Held.{TellHoldsToAll}
use Rattle.pisdf_meaning.specs.Running.{actor_states}
use Rattle.pisdf_meaning.proofs.giving.push_actor_states.Given as goal

-- with what is still to come they are all
abbrev pub invariant-loop-actor : goal.invariant-loop-actor
invariant-loop-actor l = record {
  few : l.number ≤ l.actor-index;
  state : (graphs : List Graph) → TellHoldsToAll graphs l.holds l.actors → l.state.items ++ actor_states graphs (drop l.actor-index l.actors) (drop l.number l.configured) l.left.items ≡ l.initial.state.items ++ actor_states graphs l.actors l.configured l.initial.left.items;
}
