-- Lists of numbers below a limit, none of which stands twice: they are no longer than the limit.
use Rattle.std.proofs.Common.{◌≡◌, ℕ, zero, suc, ◌+◌, ◌<◌, ◌≤◌, ⊎_elim, Bool, false, cond, List, [], ◌∷◌, length, count_by, All, get_or, refl, arith, ltb, eqb, lt-ltb, le-ltb, eq-eqb, ne_eqb}
use Rattle.std.proofs.lemmas.Bool.{cases_order}
use Rattle.std.proofs.lemmas.List.Elements.{All-head, All-tail}
use Rattle.std.proofs.lemmas.List.Sums.{sum_by-append, sum_by-cons}
use Rattle.pisdf_model.specs.Details.{from_number}

count-cons : (p : ℕ → Bool) (x : ℕ) (xs : List ℕ) → count_by p (x ∷ xs) ≡ cond (p x) 1 0 + count_by p xs
count-cons p x xs = sum_by-cons (λ y. cond (p y) 1 0) x xs

one_more : (x n : ℕ) → cond (ltb x (suc n)) 1 0 ≡ cond (ltb x n) 1 0 + cond (eqb x n) 1 0
one_more x n = ⊎_elim
    (λ (e : x ≡ n). let h : n < suc n = omega arith in rw (e, lt-ltb n (suc n) h, le-ltb n n (omega arith), eq-eqb n n refl) refl)
    (λ other. ⊎_elim
    (λ (l : x < n). let d : x ≡ n → ⊥ = λ e. absurd (omega arith) in rw (lt-ltb x (suc n) (omega arith), lt-ltb x n l, ne_eqb x n d) refl)
    (λ (g : n < x). let d : x ≡ n → ⊥ = λ e. absurd (omega arith) in rw (le-ltb x (suc n) (omega arith), le-ltb x n (omega arith), ne_eqb x n d) refl)
    other)
    (cases_order x n)

below_more : (n : ℕ) (xs : List ℕ) → count_by (λ x. ltb x (suc n)) xs ≡ count_by (λ x. ltb x n) xs + count_by (λ x. eqb x n) xs
below_more n [] = refl
below_more n (x ∷ xs) =
    let here = one_more x n in
    let rest = below_more n xs in
    omega (arith, count-cons (λ y. ltb y (suc n)) x xs, count-cons (λ y. ltb y n) x xs, count-cons (λ y. eqb y n) x xs)

below_none : (xs : List ℕ) → count_by (λ x. ltb x 0) xs ≡ 0
below_none [] = refl
below_none (x ∷ xs) = let here : ltb x 0 ≡ false = le-ltb x 0 (omega arith) in rw here (below_none xs)

-- no number below n stands twice
below_few : (n : ℕ) (xs : List ℕ) → ((i : ℕ) → i < n → count_by (λ x. eqb x i) xs ≤ 1) → count_by (λ x. ltb x n) xs ≤ n
below_few zero xs once = let none = below_none xs in omega arith
below_few (suc n) xs once =
    let before = below_few n xs (λ i h. once i (omega arith)) in
    let last = once n (omega arith) in
    let more = below_more n xs in
    omega arith

all_below : (n : ℕ) (xs : List ℕ) → All (λ x. x < n) xs → count_by (λ x. ltb x n) xs ≡ length xs
all_below n [] all = refl
all_below n (x ∷ xs) all =
    let here : cond {A = ℕ} (ltb x n) 1 0 ≡ 1 = rw (lt-ltb x n (All-head (λ y. y < n) x xs all)) refl in
    let rest = all_below n xs (All-tail (λ y. y < n) x xs all) in
    omega (arith, count-cons (λ y. ltb y n) x xs)

pub few_once : (n : ℕ) (xs : List ℕ) → All (λ x. x < n) xs → ((i : ℕ) → i < n → count_by (λ x. eqb x i) xs ≤ 1) → length xs ≤ n
few_once n xs all once = let few = below_few n xs once in let same = all_below n xs all in omega arith

-- what passes in a part passes in the whole
pub count_part : {X : Type 0} (p : ℕ → Bool) (f : X → List ℕ) (n : ℕ) (xs : List X) (k : ℕ) (d : X) → k < length xs → count_by p (f (get_or xs k d)) ≤ count_by p (from_number n (λ m x. f x) xs)
count_part p f n [] k d inside = absurd (omega arith)
count_part p f n (x ∷ xs) zero d inside = let both = sum_by-append (λ m. cond (p m) 1 0) (f x) (from_number (n + 1) (λ m y. f y) xs) in omega arith
count_part p f n (x ∷ xs) (suc k) d inside =
    let both = sum_by-append (λ m. cond (p m) 1 0) (f x) (from_number (n + 1) (λ m y. f y) xs) in
    let rest = count_part p f (n + 1) xs k d (omega arith) in
    omega arith
