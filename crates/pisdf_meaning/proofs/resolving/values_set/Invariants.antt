use Rattle.std.proofs.Common.{◌≡◌, ◌≤◌, ◌++◌, drop}
use Rattle.pisdf_meaning.specs.Configuring.{configurations_from}
use Rattle.pisdf_meaning.specs.Preparing.{values_set}
use Rattle.pisdf_meaning.proofs.resolving.values_set.Given as goal

-- what the actors so far set, and then what the others do
abbrev pub invariant-loop-actor : goal.invariant-loop-actor
invariant-loop-actor l = record {
  few : l.number ≤ l.actor-index;
  sets : l.sets.items ++ values_set (configurations_from l.number l.actor-index (drop l.actor-index l.actors)) (drop l.number l.configured) ≡ values_set (configurations_from 0 0 l.actors) l.configured;
}
