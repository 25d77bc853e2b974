-- Lists that two functions make, which agree on each element.
use Rattle.std.proofs.Common.{◌≡◌, ℕ, zero, suc, ◌+◌, Bool, true, false, cond, List, [], ◌∷◌, ◌++◌, map, slice_get, Some, refl, ap, ◌∙◌, subst}
use Rattle.std.specs.List.{AllByRecursion, filter, flat_map}
use Rattle.pisdf_model.specs.Details.{from_number}

module _ {A : Type 0} (P : A → Type 0) where
  pub map_same : {B : Type 0} (f h : A → B) → ((x : A) → P x → f x ≡ h x) → (xs : List A) → AllByRecursion P xs → map f xs ≡ map h xs
  map_same f h same [] all = refl
  map_same f h same (x ∷ xs) all = ap (λ y. y ∷ map f xs) (same x all.0) ∙ ap (λ ys. h x ∷ ys) (map_same f h same xs all.1)

  pub flat_map_same : {B : Type 0} (f h : A → List B) → ((x : A) → P x → f x ≡ h x) → (xs : List A) → AllByRecursion P xs → flat_map f xs ≡ flat_map h xs
  flat_map_same f h same [] all = refl
  flat_map_same f h same (x ∷ xs) all = ap (λ y. y ++ flat_map f xs) (same x all.0) ∙ ap (λ ys. h x ++ ys) (flat_map_same f h same xs all.1)

  pub numbered_same : {B : Type 0} (f h : ℕ → A → List B) → ((n : ℕ) (x : A) → P x → f n x ≡ h n x) → (n : ℕ) (xs : List A) → AllByRecursion P xs → from_number n f xs ≡ from_number n h xs
  numbered_same f h same n [] all = refl
  numbered_same f h same n (x ∷ xs) all = ap (λ y. y ++ from_number (n + 1) f xs) (same n x all.0) ∙ ap (λ ys. h n x ++ ys) (numbered_same f h same (n + 1) xs all.1)

  -- it holds of each that is there
  pub holds_at : (xs : List A) → AllByRecursion P xs → (n : ℕ) (x : A) → slice_get xs n ≡ Some x → P x
  holds_at [] all n x is = absurd cc
  holds_at (y ∷ ys) all zero x is = let same : y ≡ x = cc in subst P same all.0
  holds_at (y ∷ ys) all (suc n) x is = holds_at ys all.1 n x is

  holds_or_not : (b : Bool) (x : A) (xs : List A) → P x → AllByRecursion P xs → AllByRecursion P (cond b (x ∷ xs) xs)
  holds_or_not true x xs p all = (p, all)
  holds_or_not false x xs p all = all

  -- and of those that a test chooses
  pub holds_chosen : (test : A → Bool) (xs : List A) → AllByRecursion P xs → AllByRecursion P (filter test xs)
  holds_chosen test [] all = tt
  holds_chosen test (x ∷ xs) all = holds_or_not (test x) x (filter test xs) all.0 (holds_chosen test xs all.1)

  pub all_both : (xs ys : List A) → AllByRecursion P xs → AllByRecursion P ys → AllByRecursion P (xs ++ ys)
  all_both [] ys some more = more
  all_both (x ∷ xs) ys some more = (some.0, all_both xs ys some.1 more)

-- what is asked of nothing holds
pub asks_nothing : {A : Type 0} (xs : List A) → AllByRecursion (λ (x : A). Unit {0}) xs
asks_nothing [] = tt
asks_nothing (x ∷ xs) = (tt, asks_nothing xs)
