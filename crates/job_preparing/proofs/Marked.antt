-- Actors that aren't free are there.
use Rattle.std.proofs.Common.{◌≡◌, ℕ, zero, suc, ◌+◌, ◌<◌, List, [], ◌∷◌, length, map, get_or, refl, arith}
use Rattle.nested_jobs.specs.Marks as mark
use Rattle.job_preparing.specs.Handing.{mark_at}
use Rattle.job_preparing.specs.Stages.{mark_of}
use Rattle.job_preparing.specs.declared.stage.Stage.{Stage}

pub marked_inside : (stages : List Stage) (n : ℕ) → (mark_at (map mark_of stages) n ≡ mark.Free → ⊥) → n < length stages
marked_inside [] n taken = absurd (taken refl)
marked_inside (s ∷ stages) zero taken = omega arith
marked_inside (s ∷ stages) (suc n) taken = let again = marked_inside stages n taken in omega arith
