-- Rows of tokens.
use Rattle.std.proofs.Common.{◌≡◌, ℕ, ◌≤◌, ℤ, List, [], ◌∷◌, length, drop, min, refl, ap, ◌∙◌, ◌⊎◌, inl, inr, arith}
use Rattle.std.proofs.Math.ListN.{drop_of_length-le}
use Rattle.pisdf_model.specs.declared.graph.Interface.{Interface}
use Rattle.quiescent_driver.specs.Texts.{token_rows}

no_lists : (n : ℕ) (outputs : List Interface) → token_rows n outputs [] ≡ []
no_lists n [] = refl
no_lists n (o ∷ outputs) = refl

pub shorter : (a b i : ℕ) → min a b ≤ i → (a ≤ i) ⊎ (b ≤ i)
shorter a b i h = search (arith)

-- past the outputs or the lists there is no row
pub no_rows : (n i : ℕ) (outputs : List Interface) (lists : List (List ℤ)) → min (length outputs) (length lists) ≤ i → token_rows n (drop i outputs) (drop i lists) ≡ []
no_rows n i outputs lists h =
    elim (shorter (length outputs) (length lists) i h) [
      | inl a ↦ ap (λ o. token_rows n o (drop i lists)) (drop_of_length-le outputs a)
      | inr b ↦ ap (token_rows n (drop i outputs)) (drop_of_length-le lists b) ∙ no_lists n (drop i outputs)
    ]
