-- A set of nodes, one node more, and its least node.
use Rattle.std.proofs.Common.{◌≡◌, ℕ, suc, zero, ◌<◌, ◌⊎◌, ◌↔◌, inl, inr, ⊎_elim, true, false, List, [], ◌∷◌, ◌++◌, length, get_or, slice_index, arith, refl, sym, ◌∙◌}
use Rattle.std.specs.List.{All, Contains}
use Rattle.std.specs.Ordering.{nat_cmp, is_eq}
use Rattle.std.specs.BTreeSet.{BTreeSet, Updates}
use Rattle.std.specs.declared.cmp.Ordering.TheVariants.{Less}
use Rattle.std.proofs.lemmas.Bool.{cases_eq}
use Rattle.std.proofs.lemmas.Bool.Decides.{nat_tests}
use Rattle.std.proofs.lemmas.Cmp.{nat_cmp_total}
use Rattle.std.proofs.lemmas.List.Elements.{All-contains, Contains-append_left, Contains-push, Contains-push_cases}
use Rattle.std.proofs.lemmas.Map.Lookups.{exact_unsigned}
use Rattle.std.proofs.lemmas.Map.Views.{btree_set_contains_iff}

module _ {X : Type 0} where
  pub none_in : (x : X) → Contains [] x → ⊥
  none_in x at = let k = at.1 in absurd (omega arith)

  pub first_in : (x : X) (rest : List X) → Contains (x ∷ rest) x
  first_in x rest = (0, omega arith, refl)

  pub later_in : (x : X) (rest : List X) (y : X) → Contains rest y → Contains (x ∷ rest) y
  later_in x rest y at = (suc at.0, (let k = at.1 in omega arith), at.2)

  pub in_cases : (x : X) (rest : List X) (y : X) → Contains (x ∷ rest) y → (x ≡ y) ⊎ Contains rest y
  in_cases x rest y at = go at.0 at.1 at.2 where
    go : (k : ℕ) → k < length (x ∷ rest) → get_or (x ∷ rest) k y ≡ y → (x ≡ y) ⊎ Contains rest y
    go zero below is = inl is
    go (suc k) below is = inr (k, omega arith, is)

apart : (n m : ℕ) → (n ≡ m → ⊥) → is_eq (nat_cmp n m) ≡ false
apart n m differ = grind (arith, nat_tests)

-- what the set has once the node is in it
pub inserted : (old new : BTreeSet ℕ) (n : ℕ) → Updates nat_cmp old new n true → (m : ℕ) → Contains new.keys m ↔ Contains (old.keys ++ n ∷ []) m
inserted old new n updates m = (
  (λ at. ⊎_elim
      (λ (same : n ≡ m). rw (← same) (Contains-push old.keys n))
      (λ (differ : n ≡ m → ⊥). Contains-append_left old.keys (n ∷ []) m ((btree_set_contains_iff nat_cmp_total exact_unsigned old m).0 (sym (updates.2 m (apart n m differ)) ∙ (btree_set_contains_iff nat_cmp_total exact_unsigned new m).1 at)))
      (cases_eq n m)),
  (λ at. (btree_set_contains_iff nat_cmp_total exact_unsigned new m).0 (⊎_elim
      (λ (same : n ≡ m). rw (← same) updates.1)
      (λ (differ : n ≡ m → ⊥). updates.2 m (apart n m differ) ∙ (btree_set_contains_iff nat_cmp_total exact_unsigned old m).1 (⊎_elim
      (λ (there : Contains old.keys m). there)
      (λ (own : n ≡ m). absurd (differ own))
      (Contains-push_cases old.keys n m at)))
      (cases_eq n m))),
)

-- of some nodes those that wait for none are let in, one node more
module _ (old heads mid waiting : List ℕ) (h : ℕ) (so_far : (n : ℕ) → Contains mid n ↔ (Contains old n ⊎ (Contains heads n × (slice_index waiting n ≡ 0)))) where
  wider : (n : ℕ) → Contains mid n → Contains old n ⊎ (Contains (heads ++ h ∷ []) n × (slice_index waiting n ≡ 0))
  wider n at = ⊎_elim
      (λ (was : Contains old n). inl was)
      (λ (new : Contains heads n × (slice_index waiting n ≡ 0)). inr (Contains-append_left heads (h ∷ []) n new.0, new.1))
      ((so_far n).0 at)

  pub let_in : slice_index waiting h ≡ 0 → (n : ℕ) → Contains (mid ++ h ∷ []) n ↔ (Contains old n ⊎ (Contains (heads ++ h ∷ []) n × (slice_index waiting n ≡ 0)))
  let_in none n = (
    (λ at. ⊎_elim
        (λ (had : Contains mid n). wider n had)
        (λ (own : h ≡ n). inr (rw (← own) (Contains-push heads h), rw (← own) none))
        (Contains-push_cases mid h n at)),
    (λ is. ⊎_elim
        (λ (was : Contains old n). Contains-append_left mid (h ∷ []) n ((so_far n).1 (inl was)))
        (λ (new : Contains (heads ++ h ∷ []) n × (slice_index waiting n ≡ 0)). ⊎_elim
        (λ (head : Contains heads n). Contains-append_left mid (h ∷ []) n ((so_far n).1 (inr (head, new.1))))
        (λ (own : h ≡ n). rw (← own) (Contains-push mid h))
        (Contains-push_cases heads h n new.0))
        is),
  )

  pub kept_out : (slice_index waiting h ≡ 0 → ⊥) → (n : ℕ) → Contains mid n ↔ (Contains old n ⊎ (Contains (heads ++ h ∷ []) n × (slice_index waiting n ≡ 0)))
  kept_out some n = (
    wider n,
    (λ is. ⊎_elim
        (λ (was : Contains old n). (so_far n).1 (inl was))
        (λ (new : Contains (heads ++ h ∷ []) n × (slice_index waiting n ≡ 0)). ⊎_elim
        (λ (head : Contains heads n). (so_far n).1 (inr (head, new.1)))
        (λ (own : h ≡ n). absurd (some (rw own new.1)))
        (Contains-push_cases heads h n new.0))
        is),
  )

-- the first is less than those behind it
pub less_than_rest : (n : ℕ) (rest : List ℕ) → All (λ m. nat_cmp n m ≡ Less) rest → (m : ℕ) → Contains rest m → n < m
less_than_rest n rest all m at = let less = All-contains (λ m. nat_cmp n m ≡ Less) rest m all at in grind (arith, nat_tests)
