-- The inputs that feed no configuration actor, with one input more.
use Rattle.std.proofs.Common.{◌≡◌, ℕ, zero, suc, ◌+◌, Bool, true, false, cond, List, [], ◌∷◌, ◌++◌, map, refl, ap, sym, ◌∙◌, append-nil, arith}
use Rattle.std.specs.List.{filter, range_with_len}
use Rattle.std.proofs.lemmas.List.{map-append}
use Rattle.std.proofs.lemmas.List.FromFn.{filter_of_map_range_with_len_more}

same_numbers : (a n : ℕ) → map (λ (i : ℕ). i) (range_with_len a n) ≡ range_with_len a n
same_numbers a zero = refl
same_numbers a (suc n) = ap (λ l. a ∷ l) (same_numbers (a + 1) n)

module _ {X : Type 0} (f : ℕ → X) (p : ℕ → Bool) (n : ℕ) where
  kept_more : filter p (range_with_len 0 (n + 1)) ≡ filter p (range_with_len 0 n) ++ cond (p n) (n ∷ []) []
  kept_more =
      ap (filter p) (sym (same_numbers 0 (n + 1))) ∙ filter_of_map_range_with_len_more p (λ (i : ℕ). i) 0 n n (omega arith)
      ∙ ap (λ l. filter p l ++ cond (p n) (n ∷ []) []) (same_numbers 0 n)

  pub with_source : (lists lists' : List X) (one : X) → p n ≡ true → lists ≡ map f (filter p (range_with_len 0 n)) → one ≡ f n → lists' ≡ lists ++ one ∷ [] → lists' ≡ map f (filter p (range_with_len 0 (n + 1)))
  with_source lists lists' one is were e now =
      now ∙ rw (were, e) (sym (ap (map f) (kept_more ∙ ap (λ (b : Bool). filter p (range_with_len 0 n) ++ cond b (n ∷ []) []) is) ∙ map-append f (filter p (range_with_len 0 n)) (n ∷ [])))

  pub without_source : (lists : List X) → p n ≡ false → lists ≡ map f (filter p (range_with_len 0 n)) → lists ≡ map f (filter p (range_with_len 0 (n + 1)))
  without_source lists is were =
      were ∙ sym (ap (map f) (kept_more ∙ ap (λ (b : Bool). filter p (range_with_len 0 n) ++ cond b (n ∷ []) []) is ∙ append-nil (filter p (range_with_len 0 n))))
