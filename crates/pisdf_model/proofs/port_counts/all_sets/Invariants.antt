use Rattle.std.proofs.Common.{◌≡◌, ◌++◌, drop}
use Rattle.pisdf_model.specs.Details.{from_number}
use Rattle.pisdf_model.specs.Ports.{all_sets, sets_of}
use Rattle.pisdf_model.proofs.port_counts.all_sets.Given as goal

-- what was pushed, and what is left, is all of it
abbrev pub invariant-loop-actor : goal.invariant-loop-actor
invariant-loop-actor l = l.sets.items ++ from_number l.actor-index (λ a actor. sets_of actor.body) (drop l.actor-index l.actors) ≡ all_sets l.actors
