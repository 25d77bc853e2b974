use Rattle.std.proofs.Common.{◌≡◌, ℕ, ◌<◌, ◌↔◌, slice_index}
use Rattle.std.specs.List.{Contains}
use Rattle.worker_mapping.proofs.release.places_of_zero.Given as goal

-- the places so far
abbrev pub invariant-loop-place : goal.invariant-loop-place
invariant-loop-place l = (n : ℕ) → Contains l.places.items n ↔ ((n < l.place) × (slice_index l.counts n ≡ 0))
