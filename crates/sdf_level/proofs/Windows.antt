-- What a firing reads doesn't depend on what came after it.
use Rattle.std.proofs.Common.{◌≡◌, ℕ, zero, suc, ◌+◌, ◌-◌, ◌*◌, ◌<◌, ◌≤◌, ⊎_elim, List, [], ◌∷◌, ◌++◌, length, slice_index_or, take, drop, refl, ap, sym, ◌∙◌, append_assoc, arith}
use Rattle.std.proofs.lemmas.Bool.{cases_lt}
use Rattle.std.proofs.lemmas.List.{append-nil, length-append}
use Rattle.sdf_level.specs.Told.{sent}

module _ {T : Type 0} where
  pub window-append : (c m : ℕ) (xs ys : List T) → m + c ≤ length xs → take c (drop m (xs ++ ys)) ≡ take c (drop m xs)
  window-append zero m xs ys h = refl
  window-append (suc c) zero [] ys h = absurd (omega arith)
  window-append (suc c) zero (x ∷ xs) ys h = ap (λ (l : List T). x ∷ l) (window-append c zero xs ys (omega arith))
  window-append (suc c) (suc m) [] ys h = absurd (omega arith)
  window-append (suc c) (suc m) (x ∷ xs) ys h = window-append (suc c) m xs ys (omega arith)

  -- more firings only send more
  pub sent_more : (own : ℕ → List (List T)) (p n d m : ℕ) → m ≡ d + n → (rest : List T) × (sent own p m ≡ sent own p n ++ rest)
  sent_more own p n zero m e = ([], ap (sent own p) (let k : m ≡ n = omega arith in k) ∙ sym (append-nil (sent own p n)))
  sent_more own p n (suc d) zero e = absurd (omega arith)
  sent_more own p n (suc d) (suc m) e = let more = sent_more own p n d m (omega arith) in (more.0 ++ slice_index_or (own m) p [], rw (more.1) (append_assoc (sent own p n) more.0 (slice_index_or (own m) p [])))

  window_ordered : (own : ℕ → List (List T)) (start : List T) (p n d c m : ℕ) → m + c ≤ length (start ++ sent own p n) → take c (drop m (start ++ sent own p (d + n))) ≡ take c (drop m (start ++ sent own p n))
  window_ordered own start p n d c m h = let more = sent_more own p n d (d + n) refl in rw (more.1, ← append_assoc) (window-append c m (start ++ sent own p n) more.0 h)

  pub window_same : (own : ℕ → List (List T)) (start : List T) (p n n' c m : ℕ) → m + c ≤ length (start ++ sent own p n) → m + c ≤ length (start ++ sent own p n') → take c (drop m (start ++ sent own p n)) ≡ take c (drop m (start ++ sent own p n'))
  window_same own start p n n' c m h h' = ⊎_elim
      (λ (lt : n < n'). let e : n' ≡ (n' - n) + n = omega arith in rw e (sym (window_ordered own start p n (n' - n) c m h)))
      (λ (ge : n' ≤ n). let e : n ≡ (n - n') + n' = omega arith in rw e (window_ordered own start p n' (n - n') c m h'))
      (cases_lt n n')

  pub length-sent : (own : ℕ → List (List T)) (p r n : ℕ) → ((j : ℕ) → j < n → length (slice_index_or (own j) p []) ≡ r) → length (sent own p n) ≡ r * n
  length-sent own p r zero rates = omega arith
  length-sent own p r (suc n) rates = length-append (sent own p n) (slice_index_or (own n) p []) ∙ (let a = length-sent own p r n (λ j h. rates j (omega arith)) in let b = rates n (omega arith) in grind arith)
