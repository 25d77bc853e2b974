-- Sums over the numbers below a bound.
use Rattle.std.proofs.Common.{◌≡◌, ℕ, zero, suc, ◌+◌, ◌*◌, ◌<◌, ◌≤◌, ⊎_elim, cond, eqb, arith, refl, sym, ap, ◌∙◌}
use Rattle.std.proofs.lemmas.Bool.{cases_eq, cases_lt, eq-eqb, ne_eqb}

abbrev pub total : ℕ → (ℕ → ℕ) → ℕ
total zero f = 0
total (suc n) f = total n f + f n

pub total-le : (n : ℕ) (f g : ℕ → ℕ) → ((i : ℕ) → i < n → f i ≤ g i) → total n f ≤ total n g
total-le zero f g le = omega arith
total-le (suc n) f g le = let rest = total-le n f g (λ i h. le i (omega arith)) in let here = le n (omega arith) in omega arith

pub total-same : (n : ℕ) (f g : ℕ → ℕ) → ((i : ℕ) → i < n → f i ≡ g i) → total n f ≡ total n g
total-same zero f g same = refl
total-same (suc n) f g same = let rest = total-same n f g (λ i h. same i (omega arith)) in let here = same n (omega arith) in omega arith

pub total-add : (n : ℕ) (f g : ℕ → ℕ) → total n (λ i. f i + g i) ≡ total n f + total n g
total-add zero f g = refl
total-add (suc n) f g = let rest = total-add n f g in omega arith

pub total-scale : (n k : ℕ) (f : ℕ → ℕ) → total n (λ i. k * f i) ≡ k * total n f
total-scale zero k f = omega arith
total-scale (suc n) k f = let rest = total-scale n k f in omega arith

pub total-always : (n k : ℕ) → total n (λ i. k) ≡ n * k
total-always zero k = omega arith
total-always (suc n) k = let rest = total-always n k in omega arith

pub total-none : (n : ℕ) (f : ℕ → ℕ) → ((i : ℕ) → i < n → f i ≡ 0) → total n f ≡ 0
total-none zero f none = refl
total-none (suc n) f none = let rest = total-none n f (λ i h. none i (omega arith)) in let here = none n (omega arith) in omega arith

-- in either order
pub total-swap : (m n : ℕ) (f : ℕ → ℕ → ℕ) → total m (λ i. total n (λ j. f i j)) ≡ total n (λ j. total m (λ i. f i j))
total-swap zero n f = sym (total-none n (λ j. 0) (λ j h. refl))
total-swap (suc m) n f = ap (λ k. k + total n (f m)) (total-swap m n f) ∙ sym (total-add n (λ j. total m (λ i. f i j)) (f m))

pub total-one : (n i : ℕ) (f : ℕ → ℕ) → i < n → f i ≤ total n f
total-one zero i f lt = absurd (omega arith)
total-one (suc n) i f lt = ⊎_elim
    (λ (same : i ≡ n). let here : f i ≡ f n = ap f same in omega arith)
    (λ (other : i ≡ n → ⊥). let rest = total-one n i f (omega arith) in omega arith)
    (cases_eq i n)

-- at most one of some numbers isn't 0, and none is above 1
pub total-single : (n : ℕ) (f : ℕ → ℕ) → ((i : ℕ) → i < n → f i ≤ 1) → ((i j : ℕ) → i < n → j < n → 0 < f i → 0 < f j → i ≡ j) → total n f ≤ 1
total-single zero f small only = omega arith
total-single (suc n) f small only = ⊎_elim
    (λ (some : 0 < f n).
    let none : total n f ≡ 0 = total-none n f (λ i h. zero_of i h some) in
    let here = small n (omega arith) in omega arith)
    (λ (none : f n ≤ 0). let rest = total-single n f (λ i h. small i (omega arith)) (λ i j h k. only i j (omega arith) (omega arith)) in omega arith)
    (cases_lt 0 (f n))
  where
    zero_of : (i : ℕ) → i < n → 0 < f n → f i ≡ 0
    zero_of i h some = ⊎_elim
        (λ (more : 0 < f i). let same = only i n (omega arith) (omega arith) more some in absurd (omega arith))
        (λ (less : f i ≤ 0). omega arith)
        (cases_lt 0 (f i))

-- one number, counted at its place
pub total-pick : (n x c : ℕ) → x < n → total n (λ i. cond (eqb x i) c 0) ≡ c
total-pick zero x c lt = absurd (omega arith)
total-pick (suc n) x c lt = ⊎_elim
    (λ (same : x ≡ n).
    let none : total n (λ i. cond (eqb x i) c 0) ≡ 0 = total-none n (λ i. cond (eqb x i) c 0) (λ i h. away i (omega arith)) in
    rw (eq-eqb x n same) (omega arith))
    (λ (other : x ≡ n → ⊥). let rest = total-pick n x c (omega arith) in rw (ne_eqb x n other) (omega arith))
    (cases_eq x n)
  where
    away : (i : ℕ) → (x ≡ i → ⊥) → cond (eqb x i) c 0 ≡ 0
    away i ne = rw (ne_eqb x i ne) refl
