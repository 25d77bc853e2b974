-- Ranges of a line.
use Rattle.std.proofs.Common.{◌≡◌, ℕ, zero, suc, ◌+◌, ◌-◌, ◌<◌, ◌≤◌, min, max, ⊎_elim, List, [], ◌∷◌, ◌++◌, take, drop, refl, ap, sym, ◌∙◌, arith}
use Rattle.std.proofs.lemmas.Bool.{cases_lt}
use Rattle.std.proofs.lemmas.List.{append-nil, drop-drop}

module _ {T : Type 0} where
  pub take-both : (m n : ℕ) (xs : List T) → take m xs ++ take n (drop m xs) ≡ take (m + n) xs
  take-both zero n xs = let e : 0 + n ≡ n = omega arith in rw e refl
  take-both (suc m) zero [] = let e : suc m + 0 ≡ suc m = omega arith in rw e refl
  take-both (suc m) (suc n) [] = let e : suc m + suc n ≡ suc (m + suc n) = omega arith in rw e refl
  take-both (suc m) n (x ∷ xs) = let e : suc m + n ≡ suc (m + n) = omega arith in rw e (ap (λ (l : List T). x ∷ l) (take-both m n xs))

module _ {T : Type 0} (line : List T) where
  -- the tokens of a line from one place up to another
  abbrev pub span : ℕ → ℕ → List T
  span lo hi = take (hi - lo) (drop lo line)

  pub span-empty : (lo hi : ℕ) → hi ≤ lo → span lo hi ≡ []
  span-empty lo hi h = let e : hi - lo ≡ 0 = omega arith in rw e refl

  pub span-join : (lo mid hi : ℕ) → lo ≤ mid → mid ≤ hi → span lo mid ++ span mid hi ≡ span lo hi
  span-join lo mid hi h k =
      let e : mid ≡ lo + (mid - lo) = omega arith in
      let d : drop mid line ≡ drop (mid - lo) (drop lo line) = ap (λ n. drop n line) e ∙ sym (drop-drop (mid - lo) lo line) in
      let s : (mid - lo) + (hi - mid) ≡ hi - lo = omega arith in
      ap (λ (l : List T). span lo mid ++ take (hi - mid) l) d ∙ take-both (mid - lo) (hi - mid) (drop lo line) ∙ ap (λ n. take n (drop lo line)) s

  -- what two ranges have in common
  abbrev pub meet : ℕ → ℕ → ℕ → ℕ → List T
  meet a e b f = span (max a b) (min e f)

  -- with two ranges that follow each other, one after the other
  pub meet-join : (a e b m f : ℕ) → b ≤ m → m ≤ f → meet a e b m ++ meet a e m f ≡ meet a e b f
  meet-join a e b m f h k = ⊎_elim
      (λ (early : a < m). ⊎_elim
      (λ (late : m < e).
      let x : max a m ≡ m = omega arith in
      let y : min e m ≡ m = omega arith in
      rw (x, y) (span-join (max a b) m (min e f) (omega arith) (omega arith)))
      (λ (done : e ≤ m).
      let x : min e m ≡ min e f = omega arith in
      rw (x, span-empty (max a m) (min e f) (omega arith)) (append-nil (span (max a b) (min e f))))
      (cases_lt m e))
      (λ (later : m ≤ a).
      let x : max a m ≡ max a b = omega arith in
      rw (span-empty (max a b) (min e m) (omega arith), x) refl)
      (cases_lt a m)

  -- the same the other way round
  pub meet-turned : (a e b f : ℕ) → meet a e b f ≡ meet b f a e
  meet-turned a e b f = let x : max a b ≡ max b a = omega arith in let y : min e f ≡ min f e = omega arith in rw (x, y) refl

  pub meet-all : (a e b f : ℕ) → b ≤ a → e ≤ f → meet a e b f ≡ span a e
  meet-all a e b f h k = let x : max a b ≡ a = omega arith in let y : min e f ≡ e = omega arith in rw (x, y) refl
