-- Nodes as they are queued by their times, and moved once these have come.
use Rattle.std.proofs.Common.{◌≡◌, ℕ, zero, suc, ◌+◌, ◌^◌, ◌<◌, ◌≤◌, ◌⊎◌, ◌↔◌, inl, inr, ⊎_elim, List, [], ◌∷◌, ◌++◌, length, slice_index, slice_get, get_or, arith, refl, sym, ap, Option, Some, None, IsSome, IfSome}
use Rattle.std.specs.List.{Contains, All}
use Rattle.std.specs.Ordering.{nat_cmp, ordering_then, MatchOrdering, match_ordering}
use Rattle.std.specs.BTreeSet.{insert_key}
use Rattle.std.specs.declared.cmp.Ordering.{Ordering}
use Rattle.std.specs.declared.cmp.Ordering.TheVariants.{Less, Equal, Greater}
use Rattle.std.proofs.lemmas.Cmp.{ranked}
use Rattle.std.proofs.lemmas.List.Elements.{All-contains, Contains-push, Contains-push_cases, Contains-append_left}
use Rattle.worker_mapping.specs.Queues.{urgency, time_of, Before, Moves, Queues}

abbrev pub Key : Type 0
Key = ℕ × ℕ

abbrev pub by_number : Key → Key → Ordering
by_number a b = ordering_then (nat_cmp a.0 b.0) (nat_cmp a.1 b.1)

order_of : (a b : Key) → MatchOrdering (by_number a b) (Before a b) (a ≡ b) (Before b a)
order_of a b = go (nat_cmp a.0 b.0) (nat_cmp a.1 b.1) (ranked a.0 b.0 (nat_cmp a.0 b.0) refl) (ranked a.1 b.1 (nat_cmp a.1 b.1) refl) where
  go : (o p : Ordering) → MatchOrdering o (a.0 < b.0) (a.0 ≡ b.0) (b.0 < a.0) → MatchOrdering p (a.1 < b.1) (a.1 ≡ b.1) (b.1 < a.1) → MatchOrdering (ordering_then o p) (Before a b) (a ≡ b) (Before b a)
  go Less p first second = inl first
  go Equal Less first second = inr (first, second)
  go Equal Equal first second = λ i. (first i, second i)
  go Equal Greater first second = inr (sym first, second)
  go Greater p first second = inl first

-- what the order says where it says that the first is less
pub before_of : (a b : Key) → by_number a b ≡ Less → Before a b
before_of a b less = rw less at (order_of a b)

Contains-here : (x : Key) (xs : List Key) → Contains (x ∷ xs) x
Contains-here x xs = (0, omega arith, refl)

Contains-there : (x : Key) (xs : List Key) (y : Key) → Contains xs y → Contains (x ∷ xs) y
Contains-there x xs y at = (suc at.0, (let k = at.1 in omega arith), at.2)

pub Contains-split : (x : Key) (xs : List Key) (y : Key) → Contains (x ∷ xs) y → (x ≡ y) ⊎ Contains xs y
Contains-split x xs y at = go at.0 at.1 at.2 where
  go : (k : ℕ) → k < length (x ∷ xs) → get_or (x ∷ xs) k y ≡ y → (x ≡ y) ⊎ Contains xs y
  go zero below is = inl is
  go (suc k) below is = inr (k, omega arith, is)

pub Contains-none : (y : Key) → Contains [] y → ⊥
Contains-none y at = let k = at.1 in absurd (omega arith)

-- one key more in its place
pub insert-keeps : (xs : List Key) (k y : Key) → Contains xs y → Contains (insert_key by_number xs k) y
insert-keeps [] k y at = absurd (Contains-none y at)
insert-keeps (x ∷ xs) k y at = elim (by_number k x) as (λ o. Contains (match_ordering o (k ∷ x ∷ xs) (x ∷ xs) (x ∷ insert_key by_number xs k)) y) [
  | Less ↦ Contains-there k (x ∷ xs) y at
  | Equal ↦ at
  | Greater ↦ ⊎_elim (λ (same : x ≡ y). rw (← same) (Contains-here x (insert_key by_number xs k))) (λ (later : Contains xs y). Contains-there x (insert_key by_number xs k) y (insert-keeps xs k y later)) (Contains-split x xs y at)
]

pub insert-own : (xs : List Key) (k : Key) → Contains (insert_key by_number xs k) k
insert-own [] k = Contains-here k []
insert-own (x ∷ xs) k = (elim (by_number k x) as (λ o. MatchOrdering o (Before k x) (k ≡ x) (Before x k) → Contains (match_ordering o (k ∷ x ∷ xs) (x ∷ xs) (x ∷ insert_key by_number xs k)) k) [
  | Less ↦ λ h. Contains-here k (x ∷ xs)
  | Equal ↦ λ h. rw h (Contains-here x xs)
  | Greater ↦ λ h. Contains-there x (insert_key by_number xs k) k (insert-own xs k)
]) (order_of k x)

pub insert-only : (xs : List Key) (k y : Key) → Contains (insert_key by_number xs k) y → Contains xs y ⊎ (y ≡ k)
insert-only [] k y at = ⊎_elim (λ (same : k ≡ y). inr (sym same)) (λ (none : Contains [] y). absurd (Contains-none y none)) (Contains-split k [] y at)
insert-only (x ∷ xs) k y at = (elim (by_number k x) as (λ o. Contains (match_ordering o (k ∷ x ∷ xs) (x ∷ xs) (x ∷ insert_key by_number xs k)) y → Contains (x ∷ xs) y ⊎ (y ≡ k)) [
  | Less ↦ λ h. ⊎_elim (λ (same : k ≡ y). inr (sym same)) (λ (old : Contains (x ∷ xs) y). inl old) (Contains-split k (x ∷ xs) y h)
  | Equal ↦ λ h. inl h
  | Greater ↦ λ h. ⊎_elim (λ (same : x ≡ y). inl (rw (← same) (Contains-here x xs))) (λ (rest : Contains (insert_key by_number xs k) y). ⊎_elim (λ (old : Contains xs y). inl (Contains-there x xs y old)) (λ (own : y ≡ k). inr own) (insert-only xs k y rest)) (Contains-split x (insert_key by_number xs k) y h)
]) at

-- the first key
pub first_in : (xs : List Key) (k : Key) → slice_get xs 0 ≡ Some k → Contains xs k
first_in [] k is = absurd (cc)
first_in (x ∷ xs) k is = let same : x ≡ k = cc in rw (← same) (Contains-here x xs)

pub popped : (xs rest : List Key) (r : Option Key) (k : Key) → slice_get xs 0 ≡ Some k → (IsSome r ↔ (0 < length xs)) → IfSome r (λ j. xs ≡ j ∷ rest) → xs ≡ k ∷ rest
popped [] rest r k is variant removal = absurd (cc)
popped (x ∷ xs) rest (Some j) k is variant removal = let same : x ≡ k = cc in let first : x ≡ j = cc in cc
popped (x ∷ xs) rest None k is variant removal = absurd (let some = variant.1 (omega arith) in cc)

pub record MovesSoFar (now : ℕ) (priority : List ℕ) (due later due' later' : List Key) : Type 0 where
  pub kept : (key : Key) → Contains due key → Contains due' key
  pub moved : (key : Key) → Contains later key → Contains later' key ⊎ ((key.0 ≤ now) × Contains due' (urgency priority key.1, key.1))
  pub only : (key : Key) → Contains due' key → Contains due key ⊎ ((old : Key) × Contains later old × (old.0 ≤ now) × (key ≡ (urgency priority old.1, old.1)))
  pub left : (key : Key) → Contains later' key → Contains later key

module _ (now : ℕ) (priority : List ℕ) (due later due' later' rest : List Key) (k : Key) (so_far : MovesSoFar now priority due later due' later') (come : k.0 ≤ now) (first : later' ≡ k ∷ rest) where
  k_there : Contains later' k
  k_there = rw first (Contains-here k rest)

  pub MovesSoFar-more : MovesSoFar now priority due later (insert_key by_number due' (urgency priority k.1, k.1)) rest
  MovesSoFar-more = record {
    kept = λ key at. insert-keeps due' (urgency priority k.1, k.1) key (so_far.kept key at);
    moved = λ key at. ⊎_elim
        (λ (still : Contains later' key). ⊎_elim
        (λ (same : k ≡ key). inr (rw same at come, rw (← same) (insert-own due' (urgency priority k.1, k.1))))
        (λ (after : Contains rest key). inl after)
        (Contains-split k rest key (rw first at still)))
        (λ (gone : (key.0 ≤ now) × Contains due' (urgency priority key.1, key.1)). inr (gone.0, insert-keeps due' (urgency priority k.1, k.1) (urgency priority key.1, key.1) gone.1))
        (so_far.moved key at);
    only = λ key at. ⊎_elim
        (λ (old : Contains due' key). so_far.only key old)
        (λ (own : key ≡ (urgency priority k.1, k.1)). inr (k, so_far.left k k_there, come, own))
        (insert-only due' (urgency priority k.1, k.1) key at);
    left = λ key at. so_far.left key (rw first (Contains-there k rest key at));
  }

-- the next time leaves room for a cost
pub time_small : (now free : ℕ) (due later : List Key) → now + 2 ^ 32 < 2 ^ 64 → free + 2 ^ 32 < 2 ^ 64 → All (λ key. key.0 + 2 ^ 32 < 2 ^ 64) later → time_of now free due later + 2 ^ 32 < 2 ^ 64
time_small now free [] [] a b all = omega arith
time_small now free [] (k ∷ later) a b all = let h = all 0 k (omega arith) in omega arith
time_small now free (k ∷ due) later a b all = omega arith

-- where none may start, there is none
pub none_left : (now free time : ℕ) (priority : List ℕ) (due later middle later' : List Key) → time ≡ time_of now free due later → Moves time priority due later middle later' → middle ≡ [] → (due ≡ []) × (later ≡ [])
none_left now free time priority [] [] middle later' is moves none = (refl, refl)
none_left now free time priority [] (k ∷ later) middle later' is moves none = absurd (⊎_elim
    (λ (still : Contains later' k). let past = moves.past k still in omega arith)
    (λ (gone : (k.0 ≤ time) × Contains middle (urgency priority k.1, k.1)). Contains-none (urgency priority k.1, k.1) (rw none at gone.1))
    (moves.moved k (Contains-here k later)))
none_left now free time priority (k ∷ due) later middle later' is moves none = absurd (Contains-none k (rw none at (moves.kept k (Contains-here k due))))

-- each that may start was one of those
pub node_below : (bound time : ℕ) (priority : List ℕ) (due later middle later' due' : List Key) (u n : ℕ) → ((key : Key) → Contains due key → key.1 < bound) → All (λ key. key.1 < bound) later → Moves time priority due later middle later' → middle ≡ (u, n) ∷ due' → n < bound
node_below bound time priority due later middle later' due' u n small small_later moves first =
    let there : Contains middle (u, n) = rw first (Contains-here (u, n) due') in
    ⊎_elim
    (λ (old : Contains due (u, n)). small (u, n) old)
    (λ (moved : (old : Key) × Contains later old × (old.0 ≤ time) × ((u, n) ≡ (urgency priority old.1, old.1))).
    let same = ap (λ (key : Key). key.1) moved.3 in
    let below = All-contains (λ (key : Key). key.1 < bound) later moved.0 small_later moved.1 in
    omega arith)
    (moves.only (u, n) there)

pub record QueuedSoFar (nodes nodes' ready : List ℕ) (later later' : List Key) : Type 0 where
  pub kept : (key : Key) → Contains later key → Contains later' key
  pub joined : (n : ℕ) → Contains nodes n → Contains nodes' n ⊎ Contains later' (slice_index ready n, n)
  pub only : (key : Key) → Contains later' key → Contains later key ⊎ (Contains nodes key.1 × (key.0 ≡ slice_index ready key.1))
  pub left : (n : ℕ) → Contains nodes' n → Contains nodes n

-- a list from which nothing was popped
pub nothing_left : (xs : List Key) (r : Option Key) → r ≡ None → (IsSome r ↔ (0 < length xs)) → xs ≡ []
nothing_left [] r none variant = refl
nothing_left (x ∷ xs) None none variant = absurd (let some = variant.1 (omega arith) in cc)
nothing_left (x ∷ xs) (Some y) none variant = absurd (cc)

module _ (nodes nodes' rest ready : List ℕ) (later later' : List Key) (n : ℕ) (so_far : QueuedSoFar nodes nodes' ready later later') (last : nodes' ≡ rest ++ n ∷ []) where
  pub QueuedSoFar-more : QueuedSoFar nodes rest ready later (insert_key by_number later' (slice_index ready n, n))
  QueuedSoFar-more = record {
    kept = λ key at. insert-keeps later' (slice_index ready n, n) key (so_far.kept key at);
    joined = λ m at. ⊎_elim
        (λ (still : Contains nodes' m). ⊎_elim
        (λ (before : Contains rest m). inl before)
        (λ (own : n ≡ m). inr (rw (← own) (insert-own later' (slice_index ready n, n))))
        (Contains-push_cases rest n m (rw last at still)))
        (λ (there : Contains later' (slice_index ready m, m)). inr (insert-keeps later' (slice_index ready n, n) (slice_index ready m, m) there))
        (so_far.joined m at);
    only = λ key at. ⊎_elim
        (λ (old : Contains later' key). so_far.only key old)
        (λ (own : key ≡ (slice_index ready n, n)). inr (rw own (so_far.left n (rw last (Contains-push rest n))), rw own refl))
        (insert-only later' (slice_index ready n, n) key at);
    left = λ m at. so_far.left m (rw last (Contains-append_left rest (n ∷ []) m at));
  }

pub all_queued : (nodes nodes' ready : List ℕ) (later later' : List Key) → nodes' ≡ [] → QueuedSoFar nodes nodes' ready later later' → Queues nodes ready later later'
all_queued nodes nodes' ready later later' none so_far = record {
  kept = so_far.kept;
  joined = λ n at. ⊎_elim (λ (still : Contains nodes' n). absurd (let h : Contains [] n = rw none at still in let k = h.1 in omega arith)) (λ (there : Contains later' (slice_index ready n, n)). there) (so_far.joined n at);
  only = so_far.only;
}
