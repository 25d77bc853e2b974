use Rattle.std.proofs.Common.{◌≡◌, ◌≤◌, ◌++◌, drop, length}
use Rattle.std.specs.List.{filter}
use Rattle.param_resolver.specs.Numbering.{fires}
use Rattle.pisdf_meaning.specs.Causes.{actors_left}
use Rattle.pisdf_meaning.proofs.left_over.actors_left.Given as goal

-- those so far, and then the others
abbrev pub invariant-loop-actor : goal.invariant-loop-actor
invariant-loop-actor l = record {
  few : l.number ≤ length l.counts;
  left : l.left.items ++ actors_left (filter fires (drop l.actor-index l.actors)) (drop l.number l.counts) ≡ actors_left (filter fires l.actors) l.counts;
}
