-- An odd number of tokens has exactly one number in the middle.
use Rattle.std.proofs.Common.{◌≡◌, ℕ, ◌+◌, ◌-◌, ◌/◌, ◌%◌, ◌≤◌, ◌<◌, Bool, true, false, cond, List, [], ◌∷◌, ◌++◌, length, get_or, suc, refl, sym, ap, ◌∙◌, arith, length-append}
use Rattle.std.specs.Prelude.{ℤ, pos, nat_le, ◌<ℤ◌, int_lt, count_by, sum_by, find, Contains, Some}
use Rattle.std.specs.Ordering.{int_cmp, is_lt}
use Rattle.std.specs.List.Sorted.{IsPermutation, IsSplitAround}
use Rattle.std.proofs.lemmas.Int.{ints, by_lt_z}
use Rattle.std.proofs.lemmas.Bool.Decides.{nat_tests}
use Rattle.std.proofs.lemmas.List.Recursion.{is_count_by, is_sum_by}
use Rattle.std.proofs.lemmas.List.Sorted.{Contains-permutation, IsPermutation-sym, length_permutation, sum_by-IsPermutation}
use Rattle.kernel_gate.specs.Counted.{smaller, larger, in_the_middle}
use Rattle.kernel_set.proofs.Firings.{both}

abbrev tally : (ℤ → Bool) → List ℤ → ℕ
tally p [] = 0
tally p (x ∷ xs) = cond (p x) (1 + tally p xs) (tally p xs)

tally_is : (p : ℤ → Bool) (xs : List ℤ) → tally p xs ≡ count_by p xs
tally_is p xs = is_count_by (tally p) p refl (λ y ys. refl) xs

one_more : (a b : Bool) (m n k : ℕ) → (a ≡ false → b ≡ false → ⊥) → k ≤ m + n → suc k ≤ cond a (1 + m) m + cond b (1 + n) n
one_more true true m n k h le = omega arith
one_more true false m n k h le = omega arith
one_more false true m n k h le = omega arith
one_more false false m n k h le = absurd (h refl refl)

either : (t u v : ℤ) → t <ℤ u → int_lt t v ≡ false → int_lt v u ≡ false → ⊥
either t u v lt above below = grind (arith, ints)

-- each token is larger than the one number or smaller than the other
covers : (t u : ℤ) → t <ℤ u → (xs : List ℤ) → length xs ≤ tally (λ v. int_lt t v) xs + tally (λ v. int_lt v u) xs
covers t u lt [] = omega arith
covers t u lt (x ∷ xs) =
    one_more (int_lt t x) (int_lt x u) (tally (λ v. int_lt t v) xs) (tally (λ v. int_lt v u) xs) (length xs) (either t u x lt) (covers t u lt xs)

few_larger : (xs : List ℤ) (t : ℤ) → in_the_middle xs t ≡ true → larger xs t ≤ (length xs - 1) / 2
few_larger xs t middle = grind (arith, nat_tests)

few_smaller : (xs : List ℤ) (t : ℤ) → in_the_middle xs t ≡ true → smaller xs t ≤ (length xs - 1) / 2
few_smaller xs t middle = grind (arith, nat_tests)

not_both : (xs : List ℤ) (t u : ℤ) → length xs % 2 ≡ 1 → in_the_middle xs t ≡ true → in_the_middle xs u ≡ true → t <ℤ u → ⊥
not_both xs t u odd first second lt =
    let all : length xs ≤ larger xs t + smaller xs u = omega (arith, covers t u lt xs, tally_is (λ v. int_lt t v) xs, tally_is (λ v. int_lt v u) xs) in
    let above = few_larger xs t first in
    let below = few_smaller xs u second in
    omega arith

pub the_same : (xs : List ℤ) (t u : ℤ) → length xs % 2 ≡ 1 → in_the_middle xs t ≡ true → in_the_middle xs u ≡ true → t ≡ u
the_same xs t u odd first second =
    by_lt_z t u (λ lt. absurd (not_both xs t u odd first second lt))
    (λ ge. by_lt_z u t (λ lt. absurd (not_both xs u t odd second first lt)) (λ le. omega (arith, ints)))

first_passes : (p : ℤ → Bool) (x : ℤ) (xs : List ℤ) (t : ℤ) (b : Bool) → p x ≡ b → (find p xs ≡ Some t → p t ≡ true) → cond b (Some x) (find p xs) ≡ Some t → p t ≡ true
first_passes p x xs t true passes later is = cc
first_passes p x xs t false fails later is = later is

pub find_passes : (p : ℤ → Bool) (xs : List ℤ) (t : ℤ) → find p xs ≡ Some t → p t ≡ true
find_passes p [] t e = cc
find_passes p (x ∷ xs) t e = first_passes p x xs t (p x) refl (find_passes p xs t) e

-- tokens that are split around one of them, half of them on each side, have it in the middle
weighed : (b : Bool) (n : ℕ) → cond b (1 + n) n ≡ cond b 1 0 + n
weighed true n = refl
weighed false n = omega arith

tally_sum : (p : ℤ → Bool) (xs : List ℤ) → tally p xs ≡ sum_by (λ x. cond (p x) 1 0) xs
tally_sum p xs = is_sum_by (tally p) (λ x. cond (p x) 1 0) refl (λ x ys. weighed (p x) (tally p ys)) xs

tally_moved : (p : ℤ → Bool) (xs ys : List ℤ) → IsPermutation xs ys → tally p ys ≡ tally p xs
tally_moved p xs ys moved = tally_sum p ys ∙ (sum_by-IsPermutation (λ x. cond (p x) 1 0) xs ys moved ∙ sym (tally_sum p xs))

none : (b : Bool) (t n : ℕ) → b ≡ false → t ≤ n → cond b (1 + t) t ≤ n
none true t n e le = cc
none false t n e le = le

one : (b : Bool) (t n : ℕ) → t ≤ n → cond b (1 + t) t ≤ suc n
one true t n le = omega arith
one false t n le = omega arith

not_less : (x y : ℤ) → is_lt (int_cmp x y) ≡ false → int_lt x y ≡ false
not_less x y e = grind (arith, ints)

not_itself : (x : ℤ) → int_lt x x ≡ false
not_itself x = grind (arith, ints)

join : (b : Bool) (m k n : ℕ) → m ≡ k + n → cond b (1 + m) m ≡ cond b (1 + k) k + n
join true m k n e = omega arith
join false m k n e = e

tally_append : (p : ℤ → Bool) (xs ys : List ℤ) → tally p (xs ++ ys) ≡ tally p xs + tally p ys
tally_append p [] ys = omega arith
tally_append p (x ∷ xs) ys = join (p x) (tally p (xs ++ ys)) (tally p xs) (tally p ys) (tally_append p xs ys)

-- where no token passes
none_pass : (p : ℤ → Bool) (ys : List ℤ) → ((k : ℕ) → k < length ys → p (get_or ys k (pos 0)) ≡ false) → tally p ys ≤ 0
none_pass p [] fails = omega arith
none_pass p (y ∷ ys) fails = none (p y) (tally p ys) 0 (fails 0 (omega arith)) (none_pass p ys (λ k lt. fails (suc k) (omega arith)))

at_most_all : (p : ℤ → Bool) (ys : List ℤ) → tally p ys ≤ length ys
at_most_all p [] = omega arith
at_most_all p (y ∷ ys) = one (p y) (tally p ys) (length ys) (at_most_all p ys)

length_split : (front back : List ℤ) (t : ℤ) → length (front ++ t ∷ back) ≡ length front + suc (length back)
length_split front back t = length-append front (t ∷ back)

-- tokens of which those before one aren't larger, and those after it aren't smaller
few_smaller_than : (front back : List ℤ) (t : ℤ) → IsSplitAround int_cmp front t back → tally (λ u. int_lt u t) (front ++ t ∷ back) ≤ length front
few_smaller_than front back t split =
    let p : ℤ → Bool = λ u. int_lt u t in
    let before = at_most_all p front in
    let after = none_pass p back (λ k lt. not_less (get_or back k (pos 0)) t (split.1 k (pos 0) lt)) in
    let here = none (p t) (tally p back) 0 (not_itself t) after in
    omega (arith, tally_append p front (t ∷ back))

few_larger_than : (front back : List ℤ) (t : ℤ) → IsSplitAround int_cmp front t back → tally (λ u. int_lt t u) (front ++ t ∷ back) ≤ length back
few_larger_than front back t split =
    let p : ℤ → Bool = λ u. int_lt t u in
    let before = none_pass p front (λ k lt. not_less t (get_or front k (pos 0)) (split.0 k (pos 0) lt)) in
    let here = none (p t) (tally p back) (length back) (not_itself t) (at_most_all p back) in
    omega (arith, tally_append p front (t ∷ back))

middle_passes : (xs front back : List ℤ) (t : ℤ) → length xs % 2 ≡ 1 → length front ≡ length xs / 2 → IsPermutation xs (front ++ t ∷ back) → IsSplitAround int_cmp front t back
    → in_the_middle xs t ≡ true
middle_passes xs front back t odd at moved split =
    let ys : List ℤ = front ++ t ∷ back in
    let len : length ys ≡ length xs = length_permutation xs ys moved in
    let sizes : length ys ≡ length front + suc (length back) = length_split front back t in
    let before = few_smaller_than front back t split in
    let after = few_larger_than front back t split in
    let few : smaller xs t ≤ (length xs - 1) / 2 = omega (arith, tally_is (λ u. int_lt u t) xs, tally_moved (λ u. int_lt u t) xs ys moved) in
    let many : larger xs t ≤ (length xs - 1) / 2 = omega (arith, tally_is (λ u. int_lt t u) xs, tally_moved (λ u. int_lt t u) xs ys moved) in
    both _ _ (is_le (smaller xs t) ((length xs - 1) / 2) few) (is_le (larger xs t) ((length xs - 1) / 2) many)
  where
    is_le : (m n : ℕ) → m ≤ n → nat_le m n ≡ true
    is_le m n le = grind (arith, nat_tests)

found_at : (p : ℤ → Bool) (xs : List ℤ) (k : ℕ) (d : ℤ) → k < length xs → p (get_or xs k d) ≡ true → (u : ℤ) × (find p xs ≡ Some u)
found_at p [] k d lt passes = absurd (omega arith)
found_at p (x ∷ xs) Prim.Native.Nat.zero d lt passes = (x, ap (λ (b : Bool). cond b (Some x) (find p xs)) passes)
found_at p (x ∷ xs) (Prim.Native.Nat.suc k) d lt passes = later (p x) (found_at p xs k d (omega arith) passes)
  where
    later : (b : Bool) → ((u : ℤ) × (find p xs ≡ Some u)) → (u : ℤ) × (cond b (Some x) (find p xs) ≡ Some u)
    later true rest = (x, refl)
    later false rest = rest

at_front : (front back : List ℤ) (t d : ℤ) → get_or (front ++ t ∷ back) (length front) d ≡ t
at_front [] back t d = refl
at_front (x ∷ front) back t d = at_front front back t d

-- an odd number of tokens has one in the middle, which splits them around it
pub middle_found : (xs front back : List ℤ) (t : ℤ) → length xs % 2 ≡ 1 → length front ≡ length xs / 2 → IsPermutation xs (front ++ t ∷ back) → IsSplitAround int_cmp front t back
    → find (in_the_middle xs) xs ≡ Some t
middle_found xs front back t odd at moved split =
    let ys : List ℤ = front ++ t ∷ back in
    let passes = middle_passes xs front back t odd at moved split in
    let within : length front < length ys = omega (arith, length_split front back t) in
    let holds : Contains ys t = (length front, within, at_front front back t t) in
    let held = Contains-permutation ys xs t (IsPermutation-sym xs ys moved) holds in
    let found = found_at (in_the_middle xs) xs held.0 t held.1 (ap (in_the_middle xs) held.2 ∙ passes) in
    found.1 ∙ ap Some (the_same xs found.0 t odd (find_passes (in_the_middle xs) xs found.0 found.1) passes)
