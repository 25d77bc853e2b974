-- What the marks of places weigh, together.
use Rattle.std.proofs.Common.{◌≡◌, ◌⊎◌, ℕ, zero, suc, ◌+◌, ◌<◌, ◌≤◌, [], ◌∷◌, length, ⊎_elim, arith}
use Rattle.std.specs.List.{AllByRecursion}
use Rattle.nested_jobs.specs.Rules.{Place}
use Rattle.nested_jobs.specs.Marks.{Mark, Free, Busy, Open, Done}

-- less, the further the item has come
abbrev pub weight : {J A : Type 0} → Mark J A → ℕ
weight Free = 2
weight Busy = 1
weight (Open job) = 1
weight (Done answer) = 0

-- the sum over the numbers below k
abbrev pub sum_to : ℕ → (ℕ → ℕ) → ℕ
sum_to zero f = 0
sum_to (suc k) f = f k + sum_to k f

-- the sum over the places of at most n numbers, each below b
abbrev pub sum_box : ℕ → ℕ → (Place → ℕ) → ℕ
sum_box b zero f = f []
sum_box b (suc n) f = f [] + sum_to b (λ i. sum_box b n (λ p. f (i ∷ p)))

abbrev pub AreBelow : ℕ → Place → Type 0
AreBelow b p = AllByRecursion (λ i. i < b) p

last : (i k : ℕ) → i < suc k → (i ≡ k) ⊎ (i < k)
last i k h = grind arith

to_falls : (k : ℕ) (f g : ℕ → ℕ) → ((i : ℕ) → g i ≤ f i) → sum_to k g ≤ sum_to k f
to_falls zero f g le = omega arith
to_falls (suc k) f g le = let here = le k in let rest = to_falls k f g le in omega arith

to_drops : (k : ℕ) (f g : ℕ → ℕ) (i : ℕ) → i < k → ((j : ℕ) → g j ≤ f j) → g i < f i → sum_to k g < sum_to k f
to_drops zero f g i lt le less = absurd (omega arith)
to_drops (suc k) f g i lt le less =
    ⊎_elim
    (λ (e : i ≡ k). let rest = to_falls k f g le in let here : g k < f k = rw (← e) less in omega arith)
    (λ (l : i < k). let rest = to_drops k f g i l le less in let here = le k in omega arith)
    (last i k lt)

pub box_falls : (b n : ℕ) (f g : Place → ℕ) → ((a : Place) → g a ≤ f a) → sum_box b n g ≤ sum_box b n f
box_falls b zero f g le = le []
box_falls b (suc n) f g le =
    let here = le [] in
    let rest = to_falls b (λ i. sum_box b n (λ p. f (i ∷ p))) (λ i. sum_box b n (λ p. g (i ∷ p))) (λ i. box_falls b n (λ p. f (i ∷ p)) (λ p. g (i ∷ p)) (λ p. le (i ∷ p))) in
    omega arith

-- where nothing gets more, and one place less, the sum does
pub box_drops : (b n : ℕ) (f g : Place → ℕ) (a : Place) → length a ≤ n → AreBelow b a → ((c : Place) → g c ≤ f c) → g a < f a → sum_box b n g < sum_box b n f
box_drops b zero f g [] short below le less = less
box_drops b zero f g (i ∷ p) short below le less = absurd (omega arith)
box_drops b (suc n) f g [] short below le less =
    let rest = to_falls b (λ i. sum_box b n (λ p. f (i ∷ p))) (λ i. sum_box b n (λ p. g (i ∷ p))) (λ i. box_falls b n (λ p. f (i ∷ p)) (λ p. g (i ∷ p)) (λ p. le (i ∷ p))) in
    omega arith
box_drops b (suc n) f g (i ∷ p) short below le less =
    let here = le [] in
    let rest = to_drops b (λ i. sum_box b n (λ p. f (i ∷ p))) (λ i. sum_box b n (λ p. g (i ∷ p))) i below.0
    (λ j. box_falls b n (λ p. f (j ∷ p)) (λ p. g (j ∷ p)) (λ p. le (j ∷ p)))
    (box_drops b n (λ p. f (i ∷ p)) (λ p. g (i ∷ p)) p (omega arith) below.1 (λ c. le (i ∷ c)) less) in
    omega arith
