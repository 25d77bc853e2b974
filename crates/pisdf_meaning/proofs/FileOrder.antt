-- The parts of a graph in file order, and what sinks keep.
use Rattle.std.proofs.Common.{◌≡◌, ℕ, suc, ◌+◌, ◌<◌, ℤ, List, [], ◌∷◌, length, get_or, drop, drop-cons, refl, ap, ◌∙◌, arith}
use Rattle.sdf_level.specs.LevelRun.{kept_at}
use Rattle.sdf_level.specs.declared.link.Link.{Link}

-- one part, and those after it
pub from_here : {X : Type 0} (xs : List X) (i : ℕ) (d : X) → i < length xs → drop i xs ≡ get_or xs i d ∷ drop (i + 1) xs
from_here xs i d h = drop-cons xs i d h ∙ ap (λ m. get_or xs i d ∷ drop m xs) (let e : suc i ≡ i + 1 = omega arith in e)

pub length-kept_at : (t : ℕ) (sinks : List ℕ) (links : List Link) (lines : List (List ℤ)) → length (kept_at t sinks links lines) ≡ length sinks
length-kept_at t [] links lines = refl
length-kept_at t (r ∷ sinks) links lines = let again = length-kept_at (t + 1) sinks links lines in omega arith
