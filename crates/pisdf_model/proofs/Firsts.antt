-- The first place at which a test stands.
use Rattle.std.proofs.Common.{◌≡◌, ℕ, zero, suc, ◌+◌, ◌<◌, ◌≤◌, ◌⊎◌, ⊎_elim, Bool, true, false, [], ◌∷◌, Some, refl, ap, ◌∙◌, arith}
use Rattle.std.specs.List.{filter, range_with_len}
use Rattle.std.proofs.lemmas.Bool.{cases_order, cond-true, cond-false}
use Rattle.pisdf_model.specs.Details.{first}

module _ (test : ℕ → Bool) where
  from_nowhere : (a n : ℕ) → ((j : ℕ) → a ≤ j → j < a + n → test j ≡ false) → filter test (range_with_len a n) ≡ []
  from_nowhere a zero none = refl
  from_nowhere a (suc n) none =
      cond-false (test a) (a ∷ filter test (range_with_len (a + 1) n)) (filter test (range_with_len (a + 1) n)) (none a (omega arith) (omega arith))
      ∙ from_nowhere (a + 1) n (λ j low high. none j (omega arith) (omega arith))

  from_first : (a n k : ℕ) → ((j : ℕ) → a ≤ j → j < k → test j ≡ false) → a ≤ k → k < a + n → test k ≡ true → first (filter test (range_with_len a n)) ≡ Some k
  from_first a zero k none low high here = absurd (omega arith)
  from_first a (suc n) k none low high here =
      let rest = filter test (range_with_len (a + 1) n) in
      ⊎_elim
      (λ (same : a ≡ k). ap first (cond-true (test a) (a ∷ rest) rest (rw same here)) ∙ ap Some same)
      (λ (other : (a < k) ⊎ (k < a)). ⊎_elim
      (λ (before : a < k). ap first (cond-false (test a) (a ∷ rest) rest (none a (omega arith) before)) ∙ from_first (a + 1) n k (λ j least most. none j (omega arith) most) (omega arith) (omega arith) here)
      (λ (after : k < a). absurd (omega arith))
      other)
      (cases_order a k)

  pub nowhere : (n : ℕ) → ((j : ℕ) → j < n → test j ≡ false) → filter test (range_with_len 0 n) ≡ []
  nowhere n none = from_nowhere 0 n (λ j low high. none j (omega arith))

  pub first_place : (n k : ℕ) → ((j : ℕ) → j < k → test j ≡ false) → k < n → test k ≡ true → first (filter test (range_with_len 0 n)) ≡ Some k
  first_place n k none inside here = from_first 0 n k (λ j low most. none j most) (omega arith) (omega arith) here
