use Rattle.std.proofs.Common.{◌≡◌, ◌++◌, drop}
use Rattle.pisdf_model.specs.Details.{from_number, of_each}
use Rattle.graph_format.specs.FileNames.{actor_walk}
use Rattle.graph_reader.proofs.scoped_names.push_actors.Given as goal

-- what was pushed, and what is left, is all of it
abbrev pub invariant-loop-number : goal.invariant-loop-number
invariant-loop-number l = l.names.items ++ from_number l.number (λ a actor. actor_walk l.graph a actor) (drop l.number l.actors) ≡ l.initial.names.items ++ of_each (λ a actor. actor_walk l.graph a actor) l.actors
