use Rattle.std.proofs.Common.{◌≡◌, ◌++◌, List, drop}
use Rattle.sdf_level.specs.Lists.{lists_of}
use Rattle.pisdf_model.specs.declared.graph.Graph.{Graph}
use Rattle.pisdf_meaning.specs.Held.{TellHoldsToAll}
use Rattle.pisdf_meaning.specs.Running.{actor_starts}
use Rattle.pisdf_meaning.proofs.states.push_actor_starts.Given as goal

-- with what is still to come they are all
abbrev pub invariant-loop-place : goal.invariant-loop-place
invariant-loop-place l = (graphs : List Graph) → TellHoldsToAll graphs l.holds l.graph.actors → lists_of l.lines.items ++ actor_starts graphs l.graph l.state l.place (drop l.place l.graph.actors) ≡ lists_of l.initial.lines.items ++ actor_starts graphs l.graph l.state 0 l.graph.actors
