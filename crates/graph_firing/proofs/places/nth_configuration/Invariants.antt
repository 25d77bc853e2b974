use Rattle.std.proofs.Common.{◌≡◌, ◌<◌, length, get_or, drop}
use Rattle.graph_firing.specs.Places.{places_from}
use Rattle.graph_firing.proofs.places.nth_configuration.Given as goal

abbrev pub invariant-loop-place : goal.invariant-loop-place
invariant-loop-place l = record {
  inside : l.left < length (places_from l.place (drop l.place l.actors));
  same : get_or (places_from l.place (drop l.place l.actors)) l.left 0 ≡ get_or (places_from 0 l.actors) l.fn.number 0;
}
