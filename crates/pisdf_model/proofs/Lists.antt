-- What is first in a list, and in lists put one behind the other.
use Rattle.std.proofs.Common.{◌≡◌, ℕ, zero, suc, ◌+◌, ◌<◌, ◌≤◌, ⊎_elim, Bool, true, false, List, [], ◌∷◌, ◌++◌, length, map, take, Contains, All, Some, refl, sym, ap, ◌∙◌, arith, get_or}
use Rattle.std.specs.List.{filter, flat_map, list_any, range_with_len}
use Rattle.std.proofs.lemmas.Bool.{cond-true, cond-false, or_parts, false≢true, cases_Bool, true≢false}
use Rattle.std.proofs.lemmas.List.{take_all, take_more}
use Rattle.std.proofs.lemmas.List.Elements.{Contains-push_cases}
use Rattle.std.proofs.lemmas.List.Folds.{Any-from_list_any, list_any_at}
use Rattle.std.proofs.lemmas.List.FromFn.{length-range_with_len, get_or-range_with_len}
use Rattle.pisdf_model.specs.Details.{first, Refuses}
use Rattle.pisdf_model.specs.declared.detail_fault.DetailFault.{DetailFault}
use Rattle.pisdf_model.specs.declared.detail_fault.DetailFault.TheVariants.{Fault, Memory}

module _ {X : Type 0} (p : X → Bool) where
  pub one_of : (xs : List X) → list_any p xs ≡ true → (x : X) × Contains xs x × (p x ≡ true)
  one_of xs any = let a = Any-from_list_any p xs any in (a.1, (a.0, a.2, a.3), a.4)

  pub any_by : (xs : List X) (x : X) → Contains xs x → p x ≡ true → list_any p xs ≡ true
  any_by xs x c here = list_any_at p xs c.0 x c.1 (ap p c.2 ∙ here)

  pub none_kept : (xs : List X) → list_any p xs ≡ false → filter p xs ≡ []
  none_kept [] none = refl
  none_kept (x ∷ xs) none =
      let parts = or_parts (p x) (list_any p xs) none in
      cond-false (p x) (x ∷ filter p xs) (filter p xs) parts.0 ∙ none_kept xs parts.1

  pub first_kept : (xs : List X) (i : ℕ) (d : X) → i < length xs → list_any p (take i xs) ≡ false → p (get_or xs i d) ≡ true → first (filter p xs) ≡ Some (get_or xs i d)
  first_kept [] i d inside none here = absurd (omega arith)
  first_kept (x ∷ xs) zero d inside none here = ap first (cond-true (p x) (x ∷ filter p xs) (filter p xs) here)
  first_kept (x ∷ xs) (suc i) d inside none here =
      let parts = or_parts (p x) (list_any p (take i xs)) none in
      ap first (cond-false (p x) (x ∷ filter p xs) (filter p xs) parts.0) ∙ first_kept xs i d (omega arith) parts.1 here

  -- one more element makes the difference
  pub told_by_next : (xs : List X) (i : ℕ) (d : X) → i < length xs → list_any p (take i xs) ≡ false → list_any p (take (i + 1) xs) ≡ true → p (get_or xs i d) ≡ true
  told_by_next xs i d inside none any =
      let found = one_of (take i xs ++ get_or xs i d ∷ []) (rw (take_more xs i d inside) at any) in
      ⊎_elim
      (λ (before : Contains (take i xs) found.0). absurd (true≢false (sym (any_by (take i xs) found.0 before found.2) ∙ none)))
      (λ (last : get_or xs i d ≡ found.0). ap p last ∙ found.2)
      (Contains-push_cases (take i xs) (get_or xs i d) found.0 found.1)

pub inside_range : (n k : ℕ) → Contains (range_with_len 0 n) k → k < n
inside_range n k c =
    let inside : c.0 < n = rw length-range_with_len at c.1 in
    let is = get_or-range_with_len 0 n c.0 k inside in
    let same = c.2 in
    omega arith

pub range_has : (n k : ℕ) → k < n → Contains (range_with_len 0 n) k
range_has n k inside = (k, rw length-range_with_len inside, get_or-range_with_len 0 n k k inside ∙ omega arith)

-- no place passes
pub none_among : (test : ℕ → Bool) (n : ℕ) → ((j : ℕ) → j < n → test j ≡ false) → list_any test (range_with_len 0 n) ≡ false
none_among test n none = ⊎_elim
    (λ (some : list_any test (range_with_len 0 n) ≡ true).
    let found = one_of test (range_with_len 0 n) some in
    absurd (true≢false (sym found.2 ∙ none found.0 (inside_range n found.0 found.1))))
    (λ (not_one : list_any test (range_with_len 0 n) ≡ false). not_one)
    (cases_Bool (list_any test (range_with_len 0 n)))

-- nothing is kept: the test fails at each place
pub nowhere_kept : (test : ℕ → Bool) (n k : ℕ) → filter test (range_with_len 0 n) ≡ [] → k < n → test k ≡ false
nowhere_kept test n k none inside = ⊎_elim
    (λ (here : test k ≡ true). absurd (kept (range_with_len 0 n) none (any_by test (range_with_len 0 n) k (range_has n k inside) here)))
    (λ (not_here : test k ≡ false). not_here)
    (cases_Bool (test k))
  where
    kept : (xs : List ℕ) → filter test xs ≡ [] → list_any test xs ≡ true → ⊥
    kept [] none any = false≢true any
    kept (x ∷ xs) none any = ⊎_elim
        (λ (here : test x ≡ true). let e : x ∷ filter test xs ≡ [] = sym (cond-true (test x) (x ∷ filter test xs) (filter test xs) here) ∙ none in cc)
        (λ (not_here : test x ≡ false).
        kept xs (sym (cond-false (test x) (x ∷ filter test xs) (filter test xs) not_here) ∙ none) (rw not_here at any))
        (cases_Bool (test x))

-- lists without elements

pub left_none : {X : Type 0} → (xs ys : List X) → xs ++ ys ≡ [] → xs ≡ []
left_none [] ys none = refl
left_none (x ∷ xs) ys none = cc

pub right_none : {X : Type 0} → (xs ys : List X) → xs ++ ys ≡ [] → ys ≡ []
right_none [] ys none = none
right_none (x ∷ xs) ys none = cc

pub unmapped : {X Y : Type 0} → (f : X → Y) (xs : List X) → map f xs ≡ [] → xs ≡ []
unmapped f [] none = refl
unmapped f (x ∷ xs) none = cc

module _ {D : Type 0} where
  pub refuses_first : (xs ys : List D) (fault : DetailFault D) → Refuses xs fault → Refuses (xs ++ ys) fault
  refuses_first [] ys (Fault d) refused = cc
  refuses_first (x ∷ xs) ys (Fault d) refused = refused
  refuses_first xs ys Memory refused = tt

  pub refuses_at : {X : Type 0} → (f : X → List D) (xs : List X) (i : ℕ) (d : X) (fault : DetailFault D) → i < length xs → flat_map f (take i xs) ≡ [] → Refuses (f (get_or xs i d)) fault → Refuses (flat_map f xs) fault
  refuses_at f [] i d fault inside none refused = absurd (omega arith)
  refuses_at f (x ∷ xs) zero d fault inside none refused = refuses_first (f x) (flat_map f xs) fault refused
  refuses_at f (x ∷ xs) (suc i) d fault inside none refused =
      let rest = flat_map f (take i xs) in
      let here = left_none (f x) rest none in
      rw here (refuses_at f xs i d fault (omega arith) (right_none (f x) rest none) refused)

-- what holds of as many elements as there are holds of all
pub all_whole : {X : Type 0} → (P : X → Type 0) (xs : List X) (i : ℕ) → length xs ≤ i → All P (take i xs) → All P xs
all_whole P xs i whole all = rw (take_all i xs whole) at all
