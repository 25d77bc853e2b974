-- Searches through finitely many numbers, and through lists of such.
use Rattle.std.proofs.Common.{◌≡◌, ℕ, zero, suc, ◌<◌, ◌≤◌, ◌⊎◌, inl, inr, ⊎_elim, min, List, [], ◌∷◌, length, slice_index, refl, ap, subst, arith}
use Rattle.std.proofs.lemmas.Bool.{cases_lt}

-- it holds, or it doesn't
abbrev pub Decided : Type 0 → Type 0
Decided P = P ⊎ (P → ⊥)

pub both_decided : {P Q : Type 0} → Decided P → Decided Q → Decided (P × Q)
both_decided (inl p) (inl q) = inl (p, q)
both_decided (inl p) (inr fails) = inr (λ both. fails both.1)
both_decided (inr fails) _ = inr (λ both. fails both.0)

pub then_decided : {P Q : Type 0} → Decided P → Decided Q → Decided (P → Q)
then_decided _ (inl q) = inl (λ p. q)
then_decided (inl p) (inr fails) = inr (λ follows. fails (follows p))
then_decided (inr none) (inr fails) = inl (λ p. absurd (none p))

pub le_decided : (m n : ℕ) → Decided (m ≤ n)
le_decided m n = ⊎_elim (λ (h : n < m). inr (λ k. omega arith)) (λ (h : m ≤ n). inl h) (cases_lt n m)

pub lt_decided : (m n : ℕ) → Decided (m < n)
lt_decided m n = ⊎_elim (λ (h : m < n). inl h) (λ (h : n ≤ m). inr (λ k. omega arith)) (cases_lt m n)

-- whether it holds of all numbers below n
pub below_decided : (P : ℕ → Type 0) → ((k : ℕ) → Decided (P k)) → (n : ℕ) → Decided ((k : ℕ) → k < n → P k)
below_decided P decide zero = inl (λ k h. absurd (omega arith))
below_decided P decide (suc n) = more (below_decided P decide n) (decide n)
  where
    up_to : (k : ℕ) → k < suc n → ((j : ℕ) → j < n → P j) → P n → P k
    up_to k h all last = ⊎_elim
        (λ (less : k < n). all k less)
        (λ (past : n ≤ k). let e : n ≡ k = omega arith in subst P e last)
        (cases_lt k n)

    more : Decided ((k : ℕ) → k < n → P k) → Decided (P n) → Decided ((k : ℕ) → k < suc n → P k)
    more (inl all) (inl last) = inl (λ k h. up_to k h all last)
    more (inl all) (inr fails) = inr (λ each. fails (each n (omega arith)))
    more (inr some) _ = inr (λ each. some (λ k h. each k (omega arith)))

-- the first number of which it holds
pub record IsFirst (P : ℕ → Type 0) (m : ℕ) : Type 0 where
  pub here : P m
  pub before : (k : ℕ) → k < m → P k → ⊥

-- there is such a number, or it holds of none below n
pub first_below : (P : ℕ → Type 0) → ((k : ℕ) → Decided (P k)) → (n : ℕ) → ((m : ℕ) × IsFirst P m) ⊎ ((k : ℕ) → k < n → P k → ⊥)
first_below P decide zero = inr (λ k h p. omega arith)
first_below P decide (suc n) = more (first_below P decide n) (decide n)
  where
    not_up_to : (k : ℕ) → k < suc n → ((j : ℕ) → j < n → P j → ⊥) → (P n → ⊥) → P k → ⊥
    not_up_to k h none fails p = ⊎_elim
        (λ (less : k < n). none k less p)
        (λ (past : n ≤ k). let e : k ≡ n = omega arith in fails (subst P e p))
        (cases_lt k n)

    more : ((m : ℕ) × IsFirst P m) ⊎ ((k : ℕ) → k < n → P k → ⊥) → Decided (P n) → ((m : ℕ) × IsFirst P m) ⊎ ((k : ℕ) → k < suc n → P k → ⊥)
    more (inl found) _ = inl found
    more (inr none) (inl here) = inl (n, record { here = here; before = none })
    more (inr none) (inr fails) = inr (λ k h p. not_up_to k h none fails p)

-- where there is a number for each place, there is a list of them
pub listed : (n : ℕ) (P : ℕ → ℕ → Type 0) → ((a : ℕ) → a < n → (m : ℕ) × P a m) → (list : List ℕ) × (length list ≡ n) × ((a : ℕ) → a < n → P a (slice_index list a))
listed zero P each = ([], refl, λ a h. absurd (omega arith))
listed (suc n) P each =
    let rest = listed n (λ a m. P (suc a) m) (λ a h. each (suc a) (omega arith)) in
    ((each 0 (omega arith)).0 ∷ rest.0, ap suc rest.1, at rest.0 rest.2)
  where
    at : (list : List ℕ) → ((a : ℕ) → a < n → P (suc a) (slice_index list a)) → (a : ℕ) → a < suc n → P a (slice_index ((each 0 (omega arith)).0 ∷ list) a)
    at list all zero h = (each 0 (omega arith)).1
    at list all (suc a) h = all a (omega arith)

-- ---- the least list

-- place by place the lesser of the two
abbrev pub meet : List ℕ → List ℕ → List ℕ
meet [] ys = []
meet (x ∷ xs) [] = []
meet (x ∷ xs) (y ∷ ys) = min x y ∷ meet xs ys

pub meet_at : (xs ys : List ℕ) (a : ℕ) → slice_index (meet xs ys) a ≡ min (slice_index xs a) (slice_index ys a)
meet_at [] ys a = omega arith
meet_at (x ∷ xs) [] a = omega arith
meet_at (x ∷ xs) (y ∷ ys) zero = refl
meet_at (x ∷ xs) (y ∷ ys) (suc a) = meet_at xs ys a

pub length-meet : (xs ys : List ℕ) → length xs ≡ length ys → length (meet xs ys) ≡ length xs
length-meet [] ys same = refl
length-meet (x ∷ xs) [] same = absurd (omega arith)
length-meet (x ∷ xs) (y ∷ ys) same = let rest = length-meet xs ys (omega arith) in omega arith

-- it holds of this list, which at each place is at most every other list of which it holds
pub record IsLeast (P : List ℕ → Type 0) (q : List ℕ) : Type 0 where
  pub holds : P q
  pub least : (other : List ℕ) → P other → (a : ℕ) → slice_index q a ≤ slice_index other a

-- What a search for the least list asks: of each list it is decided, of two lists of which it holds it holds of the lesser
-- at each place, and it holds only of lists of n numbers up to a limit.
pub record IsSearchable (limit n : ℕ) (P : List ℕ → Type 0) : Type 0 where
  pub decide : (q : List ℕ) → Decided (P q)
  pub meets : (p q : List ℕ) → P p → P q → P (meet p q)
  pub long : (q : List ℕ) → P q → length q ≡ n
  pub within : (q : List ℕ) → P q → (a : ℕ) → slice_index q a ≤ limit

-- the least list of which it holds, or it holds of none
abbrev pub LeastOrNone : (List ℕ → Type 0) → Type 0
LeastOrNone P = ((q : List ℕ) × IsLeast P q) ⊎ ((q : List ℕ) → P q → ⊥)

module _ (limit n : ℕ) (P : List ℕ → Type 0) (is : IsSearchable limit (suc n) P) where
  abbrev Behind : ℕ → List ℕ → Type 0
  Behind x q = P (x ∷ q)

  behind : (x : ℕ) → IsSearchable limit n (Behind x)
  behind x = record {
    decide = λ q. is.decide (x ∷ q);
    meets = λ p q one other. let R : ℕ → Type 0 = λ y. P (y ∷ meet p q) in subst R (let e : min x x ≡ x = omega arith in e) (is.meets (x ∷ p) (x ∷ q) one other);
    long = λ q holds. let l = is.long (x ∷ q) holds in omega arith;
    within = λ q holds a. is.within (x ∷ q) holds (suc a);
  }

  module _ (search : (x : ℕ) → LeastOrNone (Behind x)) where
    abbrev Starts : ℕ → Type 0
    Starts x = (q : List ℕ) × IsLeast (Behind x) q

    starts_decided : (x : ℕ) → Decided (Starts x)
    starts_decided x = ⊎_elim (λ (found : Starts x). inl found) (λ (none : (q : List ℕ) → Behind x q → ⊥). inr (λ found. none found.0 found.1.holds)) (search x)

    starts : (x : ℕ) (q : List ℕ) → Behind x q → Starts x
    starts x q holds = ⊎_elim (λ (found : Starts x). found) (λ (none : (q : List ℕ) → Behind x q → ⊥). absurd (none q holds)) (search x)

    module _ (x : ℕ) (first : IsFirst Starts x) where
      least_here : (other : List ℕ) → P other → (a : ℕ) → slice_index (x ∷ first.here.0) a ≤ slice_index other a
      least_here [] holds a = let l = is.long [] holds in absurd (omega arith)
      least_here (y ∷ r) holds a = at a
        where
          first_less : x ≤ y
          first_less = ⊎_elim (λ (less : y < x). absurd (first.before y less (starts y r holds))) (λ (h : x ≤ y). h) (cases_lt y x)

          both : P (x ∷ meet first.here.0 r)
          both = let R : ℕ → Type 0 = λ z. P (z ∷ meet first.here.0 r) in subst R (let f = first_less in let e : min x y ≡ x = omega arith in e) (is.meets (x ∷ first.here.0) (y ∷ r) first.here.1.holds holds)

          at : (a : ℕ) → slice_index (x ∷ first.here.0) a ≤ slice_index (y ∷ r) a
          at zero = first_less
          at (suc a) = let l = first.here.1.least (meet first.here.0 r) both a in let m = meet_at first.here.0 r a in omega arith

      least_first : IsLeast P (x ∷ first.here.0)
      least_first = record { holds = first.here.1.holds; least = least_here }

    none_starts : ((x : ℕ) → x < suc limit → Starts x → ⊥) → (q : List ℕ) → P q → ⊥
    none_starts none [] holds = let l = is.long [] holds in omega arith
    none_starts none (x ∷ q) holds = none x (let w = is.within (x ∷ q) holds 0 in omega arith) (starts x q holds)

    searched : LeastOrNone P
    searched = ⊎_elim
        (λ (found : (x : ℕ) × IsFirst Starts x). inl (found.0 ∷ found.1.here.0, least_first found.0 found.1))
        (λ (none : (x : ℕ) → x < suc limit → Starts x → ⊥). inr (none_starts none))
        (first_below Starts starts_decided (suc limit))

pub least_or_none : (limit n : ℕ) (P : List ℕ → Type 0) → IsSearchable limit n P → LeastOrNone P
least_or_none limit zero P is = ⊎_elim
    (λ (holds : P []). inl ([], record { holds = holds; least = λ other also a. omega arith }))
    (λ (fails : P [] → ⊥). inr (λ q holds. only q (is.long q holds) holds fails))
    (is.decide [])
  where
    only : (q : List ℕ) → length q ≡ 0 → P q → (P [] → ⊥) → ⊥
    only [] long holds fails = fails holds
    only (x ∷ q) long holds fails = omega arith
least_or_none limit (suc n) P is = searched limit n P is (λ x. least_or_none limit n (λ q. P (x ∷ q)) (behind limit n P is x))
