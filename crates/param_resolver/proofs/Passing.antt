-- How many elements pass a test, and where those that pass stand.
use Rattle.std.proofs.Common.{◌≡◌, ℕ, zero, suc, ◌+◌, ◌<◌, ◌≤◌, ⊎_elim, Bool, true, false, cond, List, [], ◌∷◌, ◌++◌, length, take, count_by, Some, refl, sym, ap, ◌∙◌, subst, arith, get_or, slice_get}
use Rattle.std.specs.List.{AllByRecursion, filter, flat_map, list_any}
use Rattle.std.proofs.lemmas.Bool.{cases_Bool, or_parts}
use Rattle.std.proofs.lemmas.List.{get_or-append-add, get_or_append_left, length-append}
use Rattle.std.proofs.lemmas.List.Recursion.{is_count_by}
use Rattle.pisdf_model.specs.Details.{from_number}

abbrev pub one : Bool → ℕ
one b = cond b 1 0

-- how many elements pass
abbrev pub times : {X : Type 0} → (X → Bool) → List X → ℕ
times p [] = 0
times p (x ∷ xs) = one (p x) + times p xs

one_more : (b : Bool) (n : ℕ) → one b + n ≡ cond b (1 + n) n
one_more true n = refl
one_more false n = omega arith

skip : (b : Bool) → b ≡ false → (n m : ℕ) → n ≡ m → one b + n ≡ m
skip b fails n m e = rw fails (omega arith)

step : (b : Bool) → b ≡ true → (n m : ℕ) → n ≡ m → one b + n ≡ suc m
step b passes n m e = rw passes (omega arith)

module _ {X : Type 0} where
  pub times_is : (p : X → Bool) (xs : List X) → count_by p xs ≡ times p xs
  times_is p xs = sym (is_count_by (times p) p refl (λ x ys. one_more (p x) (times p ys)) xs)

  pub times_append : (p : X → Bool) (xs ys : List X) → times p (xs ++ ys) ≡ times p xs + times p ys
  times_append p [] ys = omega arith
  times_append p (x ∷ xs) ys = let rest = times_append p xs ys in omega arith

  pub times_same : (P : X → Type 0) (p q : X → Bool) → ((x : X) → P x → p x ≡ q x) → (xs : List X) → AllByRecursion P xs → times p xs ≡ times q xs
  times_same P p q same [] all = refl
  times_same P p q same (x ∷ xs) all = ap (λ b. one b + times p xs) (same x all.0) ∙ ap (λ n. one (q x) + n) (times_same P p q same xs all.1)

  pub times_none : (P : X → Type 0) (p : X → Bool) → ((x : X) → P x → p x ≡ false) → (xs : List X) → AllByRecursion P xs → times p xs ≡ 0
  times_none P p none [] all = refl
  times_none P p none (x ∷ xs) all = rw (none x all.0) (let rest = times_none P p none xs all.1 in omega arith)

  pub times_some : (p : X → Bool) (xs : List X) (i : ℕ) (x : X) → slice_get xs i ≡ Some x → p x ≡ true → 1 ≤ times p xs
  times_some p [] i x is passes = absurd cc
  times_some p (y ∷ xs) zero x is passes = let e : y ≡ x = cc in rw (e, passes) (omega arith)
  times_some p (y ∷ xs) (suc i) x is passes = let rest = times_some p xs i x is passes in omega arith

  pub times_most : (p : X → Bool) (xs : List X) → times p xs ≤ length xs
  times_most p [] = omega arith
  times_most p (x ∷ xs) = let rest = times_most p xs in ⊎_elim (λ (e : p x ≡ true). rw e (omega arith)) (λ (e : p x ≡ false). rw e (omega arith)) (cases_Bool (p x))

  pub inside : (xs : List X) (i : ℕ) (x : X) → slice_get xs i ≡ Some x → i < length xs
  inside [] i x is = absurd cc
  inside (y ∷ xs) zero x is = omega arith
  inside (y ∷ xs) (suc i) x is = let rest = inside xs i x is in omega arith

  pub some_at : (xs : List X) (i : ℕ) → i < length xs → (x : X) × (slice_get xs i ≡ Some x)
  some_at [] i h = absurd (omega arith)
  some_at (x ∷ xs) zero h = (x, refl)
  some_at (x ∷ xs) (suc i) h = some_at xs i (omega arith)

  -- all elements, by their places
  pub all_at : (P : X → Type 0) (xs : List X) → ((i : ℕ) (x : X) → slice_get xs i ≡ Some x → P x) → AllByRecursion P xs
  all_at P [] each = tt
  all_at P (x ∷ xs) each = (each 0 x refl, all_at P xs (λ i y is. each (suc i) y is))

  pub one_at : (P : X → Type 0) (xs : List X) → AllByRecursion P xs → (i : ℕ) (x : X) → slice_get xs i ≡ Some x → P x
  one_at P [] all i x is = absurd cc
  one_at P (y ∷ xs) all zero x is = let e : y ≡ x = cc in subst P e all.0
  one_at P (y ∷ xs) all (suc i) x is = one_at P xs all.1 i x is

  -- ---- the place of one that passes among those that do

  pub placed : (p : X → Bool) (xs : List X) (b : ℕ) → b < times p xs → (a : ℕ) × (x : X) × (slice_get xs a ≡ Some x) × (p x ≡ true) × (times p (take a xs) ≡ b)
  placed p [] b h = absurd (omega arith)
  placed p (x ∷ xs) zero h = ⊎_elim
      (λ (passes : p x ≡ true). (0, x, refl, passes, refl))
      (λ (fails : p x ≡ false). let less = rw fails at h in let rest = placed p xs 0 (omega arith) in (suc rest.0, rest.1, rest.2, rest.3, skip (p x) fails _ _ rest.4))
      (cases_Bool (p x))
  placed p (x ∷ xs) (suc b) h = ⊎_elim
      (λ (passes : p x ≡ true). let less = rw passes at h in let rest = placed p xs b (omega arith) in (suc rest.0, rest.1, rest.2, rest.3, step (p x) passes _ _ rest.4))
      (λ (fails : p x ≡ false). let less = rw fails at h in let rest = placed p xs (suc b) (omega arith) in (suc rest.0, rest.1, rest.2, rest.3, skip (p x) fails _ _ rest.4))
      (cases_Bool (p x))

  pub numbered : (p : X → Bool) (xs : List X) (a : ℕ) (x : X) → slice_get xs a ≡ Some x → p x ≡ true → times p (take a xs) < times p xs
  numbered p [] a x is passes = absurd cc
  numbered p (y ∷ xs) zero x is passes = let e : y ≡ x = cc in rw (e, passes) (omega arith)
  numbered p (y ∷ xs) (suc a) x is passes = let rest = numbered p xs a x is passes in omega arith

  pub apart : (p : X → Bool) (xs : List X) (a c : ℕ) (x y : X) → slice_get xs a ≡ Some x → slice_get xs c ≡ Some y → p x ≡ true → p y ≡ true → times p (take a xs) ≡ times p (take c xs) → a ≡ c
  apart p [] a c x y is also first second same = absurd cc
  apart p (z ∷ xs) zero zero x y is also first second same = refl
  apart p (z ∷ xs) zero (suc c) x y is also first second same = let e : z ≡ x = cc in let counts = rw (e, first) at same in absurd (omega arith)
  apart p (z ∷ xs) (suc a) zero x y is also first second same = let e : z ≡ y = cc in let counts = rw (e, second) at same in absurd (omega arith)
  apart p (z ∷ xs) (suc a) (suc c) x y is also first second same = ap suc (apart p xs a c x y is also first second (omega arith))

  pub filtered : (p : X → Bool) (xs : List X) (a : ℕ) (x : X) → slice_get xs a ≡ Some x → p x ≡ true → slice_get (filter p xs) (times p (take a xs)) ≡ Some x
  filtered p [] a x is passes = absurd cc
  filtered p (y ∷ xs) zero x is passes = let e : y ≡ x = cc in rw (e, passes) refl
  filtered p (y ∷ xs) (suc a) x is passes = ⊎_elim
      (λ (here : p y ≡ true). rw here (let k : 1 + times p (take a xs) ≡ suc (times p (take a xs)) = omega arith in rw k (filtered p xs a x is passes)))
      (λ (not_here : p y ≡ false). rw not_here (let k : 0 + times p (take a xs) ≡ times p (take a xs) = omega arith in rw k (filtered p xs a x is passes)))
      (cases_Bool (p y))

  pub length_filtered : (p : X → Bool) (xs : List X) → length (filter p xs) ≡ times p xs
  length_filtered p [] = refl
  length_filtered p (x ∷ xs) = ⊎_elim
      (λ (here : p x ≡ true). rw here (let rest = length_filtered p xs in omega arith))
      (λ (not_here : p x ≡ false). rw not_here (let rest = length_filtered p xs in omega arith))
      (cases_Bool (p x))

  -- what one that passes gives, where each of those gives one thing
  module _ {Y : Type 0} (p : X → Bool) (h : ℕ → X → List Y) (ones : (n : ℕ) (x : X) → length (h n x) ≡ one (p x)) where
    pub collected : (n : ℕ) (xs : List X) (a : ℕ) (x : X) (d : Y) → slice_get xs a ≡ Some x → p x ≡ true → get_or (from_number n h xs) (times p (take a xs)) d ≡ get_or (h (n + a) x) 0 d
    collected n [] a x d is passes = absurd cc
    collected n (y ∷ xs) zero x d is passes =
        let e : y ≡ x = cc in
        let k : n + 0 ≡ n = omega arith in
        let long = ones n x ∙ ap one passes in
        rw (e, k) (get_or_append_left (h n x) (from_number (n + 1) h xs) d 0 (omega arith))
    collected n (y ∷ xs) (suc a) x d is passes =
        let k : n + suc a ≡ n + 1 + a = omega arith in
        ap (λ m. get_or (h n y ++ from_number (n + 1) h xs) (m + times p (take a xs)) d) (sym (ones n y))
        ∙ get_or-append-add (h n y) (from_number (n + 1) h xs) (times p (take a xs)) d
        ∙ collected (n + 1) xs a x d is passes
        ∙ ap (λ m. get_or (h m x) 0 d) (sym k)

    pub length_collected : (n : ℕ) (xs : List X) → length (from_number n h xs) ≡ times p xs
    length_collected n [] = refl
    length_collected n (x ∷ xs) = length-append (h n x) (from_number (n + 1) h xs) ∙ ap (λ m. m + length (from_number (n + 1) h xs)) (ones n x) ∙ ap (λ m. one (p x) + m) (length_collected (n + 1) xs)

  pub flat_numbered : {Y : Type 0} → (f : X → List Y) (n : ℕ) (xs : List X) → flat_map f xs ≡ from_number n (λ i x. f x) xs
  flat_numbered f n [] = refl
  flat_numbered f n (x ∷ xs) = ap (λ ys. f x ++ ys) (flat_numbered f (n + 1) xs)

  -- ---- lists of nothing

  pub each_nothing : {Y : Type 0} → (f : ℕ → X → List Y) (n : ℕ) (xs : List X) → from_number n f xs ≡ [] → (i : ℕ) (x : X) → slice_get xs i ≡ Some x → f (n + i) x ≡ []
  each_nothing f n [] none i x is = absurd cc
  each_nothing f n (y ∷ xs) none zero x is =
      let e : y ≡ x = cc in
      let k : n + 0 ≡ n = omega arith in
      rw (k, sym e) (left_nothing (f n y) (from_number (n + 1) f xs) none)
    where
      left_nothing : {Z : Type 0} → (zs ws : List Z) → zs ++ ws ≡ [] → zs ≡ []
      left_nothing [] ws e = refl
      left_nothing (z ∷ zs) ws e = cc
  each_nothing f n (y ∷ xs) none (suc i) x is =
      let k : n + suc i ≡ n + 1 + i = omega arith in
      rw k (each_nothing f (n + 1) xs (right_nothing (f n y) (from_number (n + 1) f xs) none) i x is)
    where
      right_nothing : {Z : Type 0} → (zs ws : List Z) → zs ++ ws ≡ [] → ws ≡ []
      right_nothing [] ws e = e
      right_nothing (z ∷ zs) ws e = cc

  -- ---- some element passes

  pub any_none : (p : X → Bool) (xs : List X) → times p xs ≡ 0 → list_any p xs ≡ false
  any_none p [] none = refl
  any_none p (x ∷ xs) none = ⊎_elim
      (λ (here : p x ≡ true). let counts = rw here at none in absurd (omega arith))
      (λ (not_here : p x ≡ false). let less = rw not_here at none in rw not_here (any_none p xs (omega arith)))
      (cases_Bool (p x))

  pub none_any : (p : X → Bool) (xs : List X) → list_any p xs ≡ false → (i : ℕ) (x : X) → slice_get xs i ≡ Some x → p x ≡ false
  none_any p [] none i x is = absurd cc
  none_any p (y ∷ xs) none zero x is = let e : y ≡ x = cc in rw (sym e) (or_parts (p y) (list_any p xs) none).0
  none_any p (y ∷ xs) none (suc i) x is = none_any p xs (or_parts (p y) (list_any p xs) none).1 i x is
