-- Whether a path leads from a place back to it, by the places that are reached from those behind it.
use Rattle.std.proofs.Common.{◌≡◌, ℕ, inl, inr, ◌↔◌, Bool, true, false, List, [], ◌∷◌, refl, sym, get_or}
use Rattle.pisdf_model.specs.Arrows.{to_of, Leads, Reaches, IsReached, IsMarked, leads}
use Rattle.pisdf_model.proofs.Closure.{closure}

pub same_test : (a b : Bool) → ((a ≡ true) ↔ (b ≡ true)) → a ≡ b
same_test true b same = sym (same.0 refl)
same_test false true same = same.1 refl
same_test false false same = refl

around : (arrows : List (List ℕ)) (v : ℕ) → IsReached arrows (to_of arrows v) v → Reaches arrows v v
around arrows v (inl arrow) = ([], arrow)
around arrows v (inr path) = (path.0 ∷ path.2.0, (path.1, path.2.1))

reached_around : (arrows : List (List ℕ)) (v : ℕ) (between : List ℕ) → Leads arrows v between v → IsReached arrows (to_of arrows v) v
reached_around arrows v [] path = inl path
reached_around arrows v (u ∷ between) path = inr (u, path.0, (between, path.1))

pub told_by_mark : (arrows : List (List ℕ)) (v : ℕ) (marks : List Bool) → (IsMarked marks v ↔ IsReached arrows (to_of arrows v) v) → get_or marks v false ≡ leads arrows v v
told_by_mark arrows v marks exact =
    same_test (get_or marks v false) (leads arrows v v) (
      λ marked. (closure arrows v v).1 (around arrows v (exact.0 marked)),
      λ closed. let path = (closure arrows v v).0 closed in exact.1 (reached_around arrows v path.0 path.1),
    )
