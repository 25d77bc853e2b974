-- Lines of what is left of streams, and of journals.
use Rattle.std.proofs.Common.{◌≡◌, ℕ, zero, suc, ◌+◌, ◌≤◌, List, [], ◌∷◌, length, drop, min, slice_get, Some, refl, ap, ◌∙◌, inl, inr, arith}
use Rattle.std.proofs.Math.ListN.{drop_of_length-le}
use Rattle.pisdf_model.specs.declared.graph.Interface.{Interface}
use Rattle.quiescent_driver.proofs.Rows.{shorter}
use Rattle.pisdf_program.specs.Lines.{left_lines}

no_counts : (inputs : List Interface) → left_lines inputs [] ≡ []
no_counts [] = refl
no_counts (i ∷ inputs) = refl

-- past the inputs or the counts there is no line
pub no_lines : (i : ℕ) (inputs : List Interface) (counts : List ℕ) → min (length inputs) (length counts) ≤ i → left_lines (drop i inputs) (drop i counts) ≡ []
no_lines i inputs counts h =
    elim (shorter (length inputs) (length counts) i h) [
      | inl a ↦ ap (λ o. left_lines o (drop i counts)) (drop_of_length-le inputs a)
      | inr b ↦ ap (left_lines (drop i inputs)) (drop_of_length-le counts b) ∙ no_counts (drop i inputs)
    ]

-- ---- the lines of a journal

pub item_next : {X : Type 0} (xs : List X) (i : ℕ) (x : X) → slice_get xs i ≡ Some x → drop i xs ≡ x ∷ drop (i + 1) xs
item_next [] i x is = absurd cc
item_next (y ∷ xs) zero x is = let same : y ≡ x = cc in ap (λ z. z ∷ xs) same
item_next (y ∷ xs) (suc i) x is = let e : suc (i + 1) ≡ suc i + 1 = omega arith in item_next xs i x is ∙ ap (λ n. x ∷ drop n (y ∷ xs)) e
