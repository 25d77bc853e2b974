use Rattle.std.proofs.Common.{◌≡◌, ◌+◌, ◌++◌, List, drop, length, map, vec_capacity, vec_len}
use Rattle.param_resolver.specs.Numbering.{acting, fires, has_state}
use Rattle.std.specs.List.{filter}
use Rattle.pisdf_model.specs.declared.graph.Graph.{Graph}
use Rattle.pisdf_meaning.specs.Running.{actor_states}
use Rattle.graph_firing.proofs.nodes.ending.push_actor_states.Given as goal

-- with what is still to come they are all
abbrev pub invariant-loop-actor : goal.invariant-loop-actor
invariant-loop-actor l = record {
  len : vec_len l.state ≡ vec_len l.initial.state + l.actor-index;
  capacity : vec_capacity l.state ≡ vec_capacity l.initial.state;
  number : l.number + length (filter fires (drop l.actor-index l.graph.actors)) ≡ length l.keeps;
  state : (graphs : List Graph) → l.keeps ≡ map (has_state graphs) (acting l.graph) →
      (drop l.number l.keeps ≡ map (has_state graphs) (filter fires (drop l.actor-index l.graph.actors)))
      × (l.state.items ++ actor_states graphs (drop l.actor-index l.graph.actors) l.configured.items l.left.items ≡ l.initial.state.items ++ actor_states graphs l.graph.actors l.initial.configured.items l.initial.left.items);
}
