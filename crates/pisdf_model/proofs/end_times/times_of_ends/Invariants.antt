use Rattle.std.proofs.Common.{◌≡◌, ℕ, Option, take, count_by}
use Rattle.std.specs.Ordering.{is_eq}
use Rattle.pisdf_model.specs.EndTimes.{place_cmp, place_of, times_at}
use Rattle.pisdf_model.proofs.end_times.times_of_ends.Given as goal

abbrev pub invariant-loop-end : goal.invariant-loop-end
invariant-loop-end l = (q : Option ℕ × ℕ) → times_at l.times q ≡ count_by (λ end. is_eq (place_cmp (place_of end) q)) (take l.end-index l.ends)
