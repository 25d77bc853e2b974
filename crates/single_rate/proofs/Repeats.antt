-- A list repeated without end.
use Rattle.std.proofs.Common.{◌≡◌, ℕ, zero, suc, ◌+◌, ◌%◌, ◌<◌, ◌≤◌, ⊎_elim, List, [], ◌∷◌, ◌++◌, length, take, drop, refl, ap, sym, ◌∙◌, arith}
use Rattle.std.proofs.lemmas.Bool.{cases_lt}
use Rattle.std.proofs.lemmas.List.{drop-drop, take_all}
use Rattle.std.proofs.Math.Nat.{mod-eq_of_lt}
use Rattle.sdf_level.specs.Interfaces.{repeat, repeated}
use Rattle.single_rate.proofs.Spans.{take-both}

module _ {T : Type 0} where
  one-of : (m : ℕ) (xs : List T) → m < length xs → (x : T) × (take 1 (drop m xs) ≡ x ∷ [])
  one-of m [] h = absurd (omega arith)
  one-of zero (x ∷ xs) h = (x, refl)
  one-of (suc m) (x ∷ xs) h = one-of m xs (omega arith)

  repeat-one : (t : List T) (i : ℕ) → 0 < length t → (x : T) × (repeat t i ≡ x ∷ [])
  repeat-one t i some = one-of (i % length t) t (omega arith)

  pub length-repeated : (t : List T) (i n : ℕ) → 0 < length t → length (repeated t i n) ≡ n
  length-repeated t i zero some = refl
  length-repeated t i (suc n) some = let one = repeat-one t i some in let more = length-repeated t (i + 1) n some in rw (one.1) (omega arith)

  -- a range of it
  pub repeated-window : (t : List T) (i m c n : ℕ) → 0 < length t → m + c ≤ n → take c (drop m (repeated t i n)) ≡ repeated t (i + m) c
  repeated-window t i zero zero n some h = refl
  repeated-window t i zero (suc c) zero some h = absurd (omega arith)
  repeated-window t i zero (suc c) (suc n) some h =
      let one = repeat-one t i some in
      let e : i + 0 ≡ i = omega arith in
      let f : (i + 1) + 0 ≡ i + 1 = omega arith in
      rw (e, one.1) (ap (λ (l : List T). one.0 ∷ l) (repeated-window t (i + 1) zero c n some (omega arith) ∙ ap (λ k. repeated t k c) f))
  repeated-window t i (suc m) c zero some h = absurd (omega arith)
  repeated-window t i (suc m) c (suc n) some h =
      let one = repeat-one t i some in
      let e : i + suc m ≡ (i + 1) + m = omega arith in
      rw (e, one.1) (repeated-window t (i + 1) m c n some (omega arith))

  -- within the list it is the list
  pub repeated-own : (t : List T) (i n : ℕ) → i + n ≤ length t → repeated t i n ≡ take n (drop i t)
  repeated-own t i zero h = refl
  repeated-own t i (suc n) h =
      let small : i % length t ≡ i = mod-eq_of_lt (omega arith) in
      let e : suc n ≡ 1 + n = omega arith in
      rw (small, repeated-own t (i + 1) n (omega arith), e) (ap (λ (l : List T). take 1 (drop i t) ++ take n l) (sym (drop-drop 1 i t)) ∙ take-both 1 n (drop i t))

  pub repeated-once : (t : List T) (n : ℕ) → length t ≡ n → repeated t 0 n ≡ t
  repeated-once t n e = repeated-own t 0 n (omega arith) ∙ take_all n t (omega arith)

  -- its first elements, as many as the list has
  pub repeated-first : (t : List T) (r n : ℕ) → length t ≡ r → r ≤ n → take r (repeated t 0 n) ≡ t
  repeated-first t r n e h = ⊎_elim
      (λ (some : 0 < length t). repeated-window t 0 0 r n some (omega arith) ∙ repeated-once t r e)
      (λ (none : length t ≤ 0). let z : r ≡ 0 = omega arith in rw z (sym (nothing t (omega arith))))
      (cases_lt 0 (length t))
    where
      nothing : (t : List T) → length t ≡ 0 → t ≡ []
      nothing [] h = refl
      nothing (x ∷ t) h = absurd (omega arith)
