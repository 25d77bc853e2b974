-- How many nodes wait, and how many don't.
use Rattle.std.proofs.Common.{◌≡◌, ◌≢◌, ℕ, zero, suc, ◌+◌, ◌<◌, ◌≤◌, ◌==◌, true, false, List, [], ◌∷◌, length, set, drop, refl, ap, arith, ⊎_elim, if◌then◌else◌}
use Rattle.std.specs.Prelude.{Bool, slice_index}
use Rattle.std.proofs.lemmas.Bool.Decides.{eqb_tells}
use Rattle.std.proofs.lemmas.List.{drop_more}
use Rattle.audit_job.specs.Candidates.{waiting_in}

abbrev one_if : ℕ → ℕ
one_if w = if w == 0 then 0 else 1

abbrev pub free_in : List ℕ → ℕ
free_in [] = 0
free_in (w ∷ waits) = (if w == 0 then 1 else 0) + free_in waits

one_of : (b : Bool) (x y z : ℕ) → x + y ≡ z → ((if b then 0 else 1) + x) + ((if b then 1 else 0) + y) ≡ suc z
one_of true x y z same = omega arith
one_of false x y z same = omega arith

-- each waits or doesn't
pub each_once : (waits : List ℕ) → waiting_in waits + free_in waits ≡ length waits
each_once [] = refl
each_once (w ∷ waits) = one_of (w == 0) (waiting_in waits) (free_in waits) (length waits) (each_once waits)

-- one waits for another number of edges
pub waiting_set : (waits : List ℕ) (n x : ℕ) → n < length waits → waiting_in (set waits n x) + one_if (slice_index waits n) ≡ waiting_in waits + one_if x
waiting_set [] n x inside = absurd (omega arith)
waiting_set (w ∷ waits) zero x inside = omega arith
waiting_set (w ∷ waits) (suc n) x inside = let again = waiting_set waits n x (omega arith) in omega arith

abbrev free_if : ℕ → ℕ
free_if w = if w == 0 then 1 else 0

one_none : (w : ℕ) → w ≡ 0 → one_if w ≡ 0
one_none w is = ap one_if is

abbrev by_test : Bool → ℕ
by_test b = if b then 0 else 1

abbrev by_other : Bool → ℕ
by_other b = if b then 1 else 0

not_zero : (w : ℕ) → w ≢ 0 → (w == 0) ≡ false
not_zero w some = ⊎_elim
    (λ (s : ((w == 0) ≡ true) × (w ≡ 0)). absurd (some s.1))
    (λ (s : ((w == 0) ≡ false) × (w ≢ 0)). s.0)
    (eqb_tells w 0)

one_some : (w : ℕ) → w ≢ 0 → one_if w ≡ 1
one_some w some = ap by_test (not_zero w some)

module _ (waits : List ℕ) (n : ℕ) (inside : n < length waits) (waiting : 0 < slice_index waits n) where
  -- a node that waits is counted
  pub some_wait : 1 ≤ waiting_in waits
  some_wait =
      let e = waiting_set waits n 0 inside in
      let o = one_some (slice_index waits n) (omega arith) in
      let z = one_none 0 refl in
      omega arith

  -- it waits for nothing now
  pub fewer_wait : (x : ℕ) → x ≡ 0 → waiting_in (set waits n x) + 1 ≡ waiting_in waits
  fewer_wait x none =
      let e = waiting_set waits n x inside in
      let o = one_some (slice_index waits n) (omega arith) in
      let z = one_none x none in
      omega arith

  -- it waits still
  pub as_many_wait : (x : ℕ) → x ≢ 0 → waiting_in (set waits n x) ≡ waiting_in waits
  as_many_wait x some =
      let e = waiting_set waits n x inside in
      let o = one_some (slice_index waits n) (omega arith) in
      let z = one_some x some in
      omega arith

-- ---- node by node

one_free : (w : ℕ) → w ≡ 0 → free_if w ≡ 1
one_free w is = ap free_if is

none_free : (w : ℕ) → w ≢ 0 → free_if w ≡ 0
none_free w some = ap by_other (not_zero w some)

module _ (waits : List ℕ) (n : ℕ) (inside : n < length waits) where
  rest_is : free_in (drop n waits) ≡ free_if (slice_index waits n) + free_in (drop (n + 1) waits)
  rest_is = ap free_in (drop_more waits n 0 inside)

  pub free_next : slice_index waits n ≡ 0 → free_in (drop n waits) ≡ free_in (drop (n + 1) waits) + 1
  free_next is = let e = rest_is in let o = one_free (slice_index waits n) is in omega arith

  pub waits_next : slice_index waits n ≢ 0 → free_in (drop n waits) ≡ free_in (drop (n + 1) waits)
  waits_next some = let e = rest_is in let o = none_free (slice_index waits n) some in omega arith
