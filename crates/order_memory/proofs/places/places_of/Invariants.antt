use Rattle.std.proofs.Common.{◌≡◌, ◌<◌, ℕ, length, slice_index}
use Rattle.order_memory.proofs.places.places_of.Given as goal

abbrev pub invariant-loop-place : goal.invariant-loop-place
invariant-loop-place l = record {
  long : length l.places.items ≡ l.nodes;
  each : (i : ℕ) → i < l.place → slice_index l.places.items (slice_index l.line i) ≡ i;
}
