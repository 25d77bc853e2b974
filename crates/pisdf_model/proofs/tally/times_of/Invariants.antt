use Rattle.std.proofs.Common.{◌≡◌, ◌==◌, ℕ, ◌<◌, length, take, get_or, count_by}
use Rattle.pisdf_model.proofs.tally.times_of.Given as goal

abbrev pub invariant-loop-place : goal.invariant-loop-place
invariant-loop-place l = record {
  long : length l.times.items ≡ l.count;
  exact : (i : ℕ) → i < l.count → get_or l.times.items i 0 ≡ count_by (λ s. s == i) (take l.place-index l.places);
}
