-- The greatest of some numbers, and what holds of each element.
use Rattle.std.proofs.Common.{◌≡◌, ℕ, ◌<◌, ◌≤◌, Bool, true, false, cond, List, [], ◌∷◌, ◌++◌, max, map, length, arith, refl, get_or, zero, suc}
use Rattle.std.specs.List.{AllByRecursion, Contains, filter}
use Rattle.worker_mapping.specs.Graph.{greatest}

pub greatest-append : (xs ys : List ℕ) → greatest (xs ++ ys) ≡ max (greatest xs) (greatest ys)
greatest-append [] ys = omega arith
greatest-append (x ∷ xs) ys = let e = greatest-append xs ys in omega arith

-- a bound on each is a bound on the greatest
pub greatest-le : (m : ℕ) (xs : List ℕ) → AllByRecursion (λ x. x ≤ m) xs → greatest xs ≤ m
greatest-le m [] all = omega arith
greatest-le m (x ∷ xs) all = let e = greatest-le m xs all.1 in let h = all.0 in omega arith

pub greatest-bounds : (xs : List ℕ) → AllByRecursion (λ x. x ≤ greatest xs) xs
greatest-bounds xs = go xs (greatest xs) (omega arith) where
  go : (ys : List ℕ) (m : ℕ) → greatest ys ≤ m → AllByRecursion (λ x. x ≤ m) ys
  go [] m h = tt
  go (y ∷ ys) m h = (omega arith, go ys m (omega arith))

module _ {X : Type 0} where
  pub each-weaker : (P Q : X → Type 0) → ((x : X) → P x → Q x) → (xs : List X) → AllByRecursion P xs → AllByRecursion Q xs
  each-weaker P Q f [] all = tt
  each-weaker P Q f (x ∷ xs) all = (f x all.0, each-weaker P Q f xs all.1)

  pub each-append : (P : X → Type 0) (xs ys : List X) → AllByRecursion P xs → AllByRecursion P ys → AllByRecursion P (xs ++ ys)
  each-append P [] ys all more = more
  each-append P (x ∷ xs) ys all more = (all.0, each-append P xs ys all.1 more)

  pub each-map : {Y : Type 0} (P : Y → Type 0) (f : X → Y) (xs : List X) → AllByRecursion (λ x. P (f x)) xs → AllByRecursion P (map f xs)
  each-map P f [] all = tt
  each-map P f (x ∷ xs) all = (all.0, each-map P f xs all.1)

  pub each-unmap : {Y : Type 0} (P : Y → Type 0) (f : X → Y) (xs : List X) → AllByRecursion P (map f xs) → AllByRecursion (λ x. P (f x)) xs
  each-unmap P f [] all = tt
  each-unmap P f (x ∷ xs) all = (all.0, each-unmap P f xs all.1)

  pub each-filter : (P : X → Type 0) (p : X → Bool) (xs : List X) → AllByRecursion P xs → AllByRecursion P (filter p xs)
  each-filter P p [] all = tt
  each-filter P p (x ∷ xs) all = elim (p x) as (λ b. AllByRecursion P (cond b (x ∷ filter p xs) (filter p xs))) [ true ↦ (all.0, each-filter P p xs all.1) | false ↦ each-filter P p xs all.1 ]

  -- the elements that pass, with what the test says
  pub each-passing : (P : X → Type 0) (p : X → Bool) (xs : List X) → AllByRecursion (λ x. p x ≡ true → P x) xs → AllByRecursion P (filter p xs)
  each-passing P p [] all = tt
  each-passing P p (x ∷ xs) all = elim (p x) as (λ b. (b ≡ true → P x) → AllByRecursion P (cond b (x ∷ filter p xs) (filter p xs))) [ true ↦ λ h. (h refl, each-passing P p xs all.1) | false ↦ λ h. each-passing P p xs all.1 ] all.0

  pub each-always : (P : X → Type 0) → ((x : X) → P x) → (xs : List X) → AllByRecursion P xs
  each-always P f [] = tt
  each-always P f (x ∷ xs) = (f x, each-always P f xs)

  pub each-at : (P : X → Type 0) (xs : List X) (i : ℕ) (d : X) → i < length xs → AllByRecursion P xs → P (get_or xs i d)
  each-at P [] i d h all = absurd (omega arith)
  each-at P (x ∷ xs) zero d h all = all.0
  each-at P (x ∷ xs) (suc i) d h all = each-at P xs i d (omega arith) all.1

  pub each-contains : (P : X → Type 0) (xs : List X) (x : X) → AllByRecursion P xs → Contains xs x → P x
  each-contains P xs x all at = let k : P (get_or xs at.0 x) = each-at P xs at.0 x at.1 all in rw (← at.2) k

  -- two functions that agree on each element
  pub map-agree : {Y : Type 0} (f g : X → Y) (xs : List X) → AllByRecursion (λ x. f x ≡ g x) xs → map f xs ≡ map g xs
  map-agree f g [] all = refl
  map-agree f g (x ∷ xs) all = let h = all.0 in let k = map-agree f g xs all.1 in cc
