-- The places of 0 in a list, one place more.
use Rattle.std.proofs.Common.{◌≡◌, ℕ, ◌+◌, ◌<◌, ◌↔◌, ⊎_elim, List, [], ◌∷◌, ◌++◌, slice_index, arith}
use Rattle.std.specs.List.{Contains}
use Rattle.std.proofs.lemmas.List.Elements.{Contains-push, Contains-push_cases, Contains-append_left}
use Rattle.std.proofs.lemmas.Bool.{cases_eq}

module _ (counts places : List ℕ) (i : ℕ) (h : (n : ℕ) → Contains places n ↔ ((n < i) × (slice_index counts n ≡ 0))) where
  pub place_here : slice_index counts i ≡ 0 → (n : ℕ) → Contains (places ++ i ∷ []) n ↔ ((n < i + 1) × (slice_index counts n ≡ 0))
  place_here e n = (
    (λ at. ⊎_elim
        (λ (old : Contains places n). let k = (h n).0 old in (let b = k.0 in omega arith, k.1))
        (λ (same : i ≡ n). (omega arith, rw (← same) e))
        (Contains-push_cases places i n at)),
    (λ k. ⊎_elim
        (λ (same : i ≡ n). rw (← same) (Contains-push places i))
        (λ (other : i ≡ n → ⊥). Contains-append_left places (i ∷ []) n ((h n).1 ((let b = k.0 in let o : i ≡ n → ⊥ = other in go b o), k.1)))
        (cases_eq i n)),
  ) where
    go : n < i + 1 → (i ≡ n → ⊥) → n < i
    go b o = omega arith

  pub place_not_here : (slice_index counts i ≡ 0 → ⊥) → (n : ℕ) → Contains places n ↔ ((n < i + 1) × (slice_index counts n ≡ 0))
  place_not_here e n = (
    (λ at. let k = (h n).0 at in (let b = k.0 in omega arith, k.1)),
    (λ k. ⊎_elim
        (λ (same : i ≡ n). absurd (e (rw same k.1)))
        (λ (other : i ≡ n → ⊥). (h n).1 ((let b = k.0 in go b other), k.1))
        (cases_eq i n)),
  ) where
    go : n < i + 1 → (i ≡ n → ⊥) → n < i
    go b o = omega arith
