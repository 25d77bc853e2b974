-- The order of placing, from the sorted sizes and numbers.
use Rattle.std.proofs.Common.{◌≡◌, ◌≢◌, ℕ, ◌+◌, ◌<◌, ◌≤◌, ◌⊎◌, inl, inr, ⊎_elim, true, false, List, [], ◌∷◌, ◌++◌, map, length, get_or, take, slice_index, sum, sum_by, IsPermutation, refl, sym, ap, ◌∙◌, arith}
use Rattle.std.specs.Ordering.{nat_cmp, ordering_then, is_lt, MatchOrdering}
use Rattle.std.specs.declared.cmp.Ordering.{Ordering}
use Rattle.std.specs.declared.cmp.Ordering.TheVariants.{Less, Equal, Greater}
use Rattle.std.specs.declared.cmp.Reverse.{Reverse}
use Rattle.std.specs.Cmp.{IsTotalOrder}
use Rattle.std.specs.List.{swap}
use Rattle.std.specs.List.Sorted.{IsSorted}
use Rattle.std.proofs.lemmas.Bool.{cases_lt, cases_eq}
use Rattle.std.proofs.lemmas.Cmp.{ranked, nat_cmp_total, on_total, then_total, back_total}
use Rattle.std.proofs.lemmas.List.{get_or-map, length-map, map_push, length-append, get_or_push, get_or_append_left, get_or_default, take_all}
use Rattle.std.proofs.lemmas.List.Edits.{swapped_from_swap, length-swap}
use Rattle.std.proofs.lemmas.List.Sums.{sum_by_push, sum_by_more}
use Rattle.std.proofs.lemmas.List.Sorted.{IsPermutation-map, IsPermutation-keeps, Contains-permutation, sum_by-IsPermutation, sorted_far, ranks_by, All-permutation}
use Rattle.placement.specs.Placing.{IsPlacingOrder}

abbrev pub Waiting : Type 0
Waiting = Reverse ℕ × ℕ

abbrev larger_first : Waiting → Waiting → Ordering
larger_first x y = ordering_then (nat_cmp y.0.0 x.0.0) (nat_cmp x.1 y.1)

larger_first_total : IsTotalOrder larger_first
larger_first_total = then_total (on_total (λ (x : Waiting). x.0.0) (back_total nat_cmp_total)) (on_total (λ (x : Waiting). x.1) nat_cmp_total)

true_is_not_false : true ≡ false → ⊥
true_is_not_false same = absurd (cc)

-- what it means that the second of two isn't before the first
not_before : (o p : Ordering) (a b m n : ℕ) → MatchOrdering o (a < b) (a ≡ b) (b < a) → MatchOrdering p (n < m) (n ≡ m) (m < n) → is_lt (ordering_then o p) ≡ false → (b < a) ⊎ ((a ≡ b) × (m ≤ n))
not_before Less p a b m n first second e = absurd (let same : true ≡ false = e in true_is_not_false same)
not_before Equal Less a b m n first second e = absurd (let same : true ≡ false = e in true_is_not_false same)
not_before Equal Equal a b m n first second e = inr (first, omega arith)
not_before Equal Greater a b m n first second e = inr (first, omega arith)
not_before Greater p a b m n first second e = inl first

in_turn : (xs : List Waiting) → IsSorted larger_first xs → (i j : ℕ) (d : Waiting) → i ≤ j → j < length xs → ((get_or xs j d).0.0 < (get_or xs i d).0.0) ⊎ (((get_or xs i d).0.0 ≡ (get_or xs j d).0.0) × ((get_or xs i d).1 ≤ (get_or xs j d).1))
in_turn xs sorted i j d up inside =
    let x : Waiting = get_or xs i d in
    let y : Waiting = get_or xs j d in
    not_before (nat_cmp x.0.0 y.0.0) (nat_cmp y.1 x.1) x.0.0 y.0.0 x.1 y.1 (ranked x.0.0 y.0.0 (nat_cmp x.0.0 y.0.0) refl) (ranked y.1 x.1 (nat_cmp y.1 x.1) refl)
    (sorted_far (λ a b. is_lt (larger_first a b)) (ranks_by larger_first_total (λ (w : Waiting). w)) xs sorted i j d up inside)

-- no number stands twice
abbrev Distinct : List ℕ → Type 0
Distinct xs = (i j : ℕ) → i < length xs → j < length xs → get_or xs i 0 ≡ get_or xs j 0 → i ≡ j

-- the first n buffers wait, in the order of their numbers
pub record WaitingSoFar (sizes : List ℕ) (waiting : List Waiting) (n : ℕ) : Type 0 where
  pub long : length waiting ≡ n
  pub each : (k : ℕ) (d : Waiting) → k < n → get_or waiting k d ≡ (record { 0 = slice_index sizes k }, k)
  pub total : sum_by (λ (e : ℕ). slice_index sizes e) (map (λ (w : Waiting). w.1) waiting) ≡ sum (take n sizes)

pub none_waiting : (sizes : List ℕ) → WaitingSoFar sizes [] 0
none_waiting sizes = record {
  long = refl;
  each = λ k d below. absurd (omega arith);
  total = refl;
}

pub one_more_waiting : (sizes : List ℕ) (waiting : List Waiting) (n : ℕ) → n < length sizes → WaitingSoFar sizes waiting n → WaitingSoFar sizes (waiting ++ (record { 0 = get_or sizes n 0 }, n) ∷ []) (n + 1)
one_more_waiting sizes waiting n inside so_far =
    let next : Waiting = (record { 0 = get_or sizes n 0 }, n) in
    record {
      long = length-append waiting (next ∷ []) ∙ let l = so_far.long in omega arith;
      each = λ k d below. ⊎_elim
          (λ (before : k < n). rw (get_or_append_left waiting (next ∷ []) d k (let l = so_far.long in omega arith)) (so_far.each k d before))
          (λ (last : n ≤ k). let here : k ≡ n = omega arith in rw here (get_or_push waiting next d n so_far.long))
          (cases_lt k n);
      total = rw (map_push (λ (w : Waiting). w.1) waiting next, sum_by_push (λ (e : ℕ). slice_index sizes e) (map (λ (w : Waiting). w.1) waiting) n, so_far.total)
          (sym (sum_by_more (λ (size : ℕ). size) sizes n 0 inside));
    }

-- where the element at i stood before a swap
StoodAt : (a b i k : ℕ) → Type 0
StoodAt a b i k = ((i ≡ a) × (k ≡ b)) ⊎ (((i ≡ b) × (k ≡ a)) ⊎ ((i ≢ a) × (i ≢ b) × (k ≡ i)))

stood_once : (a b i j k l : ℕ) → StoodAt a b i k → StoodAt a b j l → k ≡ l → i ≡ j
unfolding StoodAt
stood_once a b i j k l (inl x) (inl y) e = let p = x.0 in let q = y.0 in omega arith
stood_once a b i j k l (inl x) (inr (inl y)) e = let p = x.0 in let q = y.0 in let r = x.1 in let s = y.1 in omega arith
stood_once a b i j k l (inl x) (inr (inr y)) e = absurd (y.1 (let r = x.1 in let s = y.2 in omega arith))
stood_once a b i j k l (inr (inl x)) (inl y) e = let p = x.0 in let q = y.0 in let r = x.1 in let s = y.1 in omega arith
stood_once a b i j k l (inr (inl x)) (inr (inl y)) e = let p = x.0 in let q = y.0 in omega arith
stood_once a b i j k l (inr (inl x)) (inr (inr y)) e = absurd (y.0 (let r = x.1 in let s = y.2 in omega arith))
stood_once a b i j k l (inr (inr x)) (inl y) e = absurd (x.1 (let r = x.2 in let s = y.1 in omega arith))
stood_once a b i j k l (inr (inr x)) (inr (inl y)) e = absurd (x.0 (let r = x.2 in let s = y.1 in omega arith))
stood_once a b i j k l (inr (inr x)) (inr (inr y)) e = let r = x.2 in let s = y.2 in omega arith

module _ (xs : List ℕ) (a b : ℕ) (a_in : a < length xs) (b_in : b < length xs) where
  stood_at : (i : ℕ) → i < length xs → (k : ℕ) × (k < length xs) × (get_or (swap xs a b) i 0 ≡ get_or xs k 0) × StoodAt a b i k
  unfolding StoodAt
  stood_at i inside =
      let swapped = swapped_from_swap xs (swap xs a b) a b 0 a_in b_in refl in
      ⊎_elim
      (λ (first : i ≡ a). (b, b_in, rw first swapped.0, inl (first, refl)))
      (λ (other : i ≢ a). ⊎_elim
      (λ (second : i ≡ b). (a, a_in, rw second swapped.1, inr (inl (second, refl))))
      (λ (neither : i ≢ b). (i, inside, swapped.2 i other neither, inr (inr (other, neither, refl))))
      (cases_eq i b))
      (cases_eq i a)

  swap_distinct : Distinct xs → Distinct (swap xs a b)
  swap_distinct distinct = λ i j i_in j_in same.
      let one = stood_at i (rw length-swap at i_in) in
      let two = stood_at j (rw length-swap at j_in) in
      stood_once a b i j one.0 two.0 one.3 two.3 (distinct one.0 two.0 one.1 two.1 (sym one.2 ∙ same ∙ two.2))

module _ (sizes : List ℕ) (waiting sorted : List Waiting) (before : WaitingSoFar sizes waiting (length sizes)) (moved : IsPermutation waiting sorted) (in_order : IsSorted larger_first sorted) where
  abbrev numbers : List ℕ
  numbers = map (λ (w : Waiting). w.1) waiting

  abbrev order : List ℕ
  order = map (λ (w : Waiting). w.1) sorted

  number_at : (k : ℕ) → k < length sizes → get_or numbers k 0 ≡ k
  number_at k inside =
      let d : Waiting = (record { 0 = 0 }, 0) in
      let l = before.long in
      get_or-map (λ (w : Waiting). w.1) waiting k d 0 (omega arith) ∙ ap (λ (w : Waiting). w.1) (before.each k d inside)

  same_numbers : IsPermutation numbers order
  same_numbers = IsPermutation-map (λ (w : Waiting). w.1) waiting sorted moved

  long : length numbers ≡ length sizes
  long = length-map waiting (λ (w : Waiting). w.1) ∙ before.long

  distinct : Distinct order
  distinct = IsPermutation-keeps numbers Distinct
      (λ i j i_in j_in same. let l = long in let x = number_at i (omega arith) in let y = number_at j (omega arith) in omega arith)
      (λ xs a b a_in b_in h. swap_distinct xs a b a_in b_in h)
      order same_numbers

  -- each waiting buffer has its own size
  size_at : (k : ℕ) (d : Waiting) → k < length sorted → (get_or sorted k d).0.0 ≡ slice_index sizes (get_or sorted k d).1
  size_at k d inside =
      All-permutation (λ (w : Waiting). w.0.0 ≡ slice_index sizes w.1) waiting sorted moved
      (λ i e below. let l = before.long in rw (before.each i e (omega arith)) refl)
      k d inside

  pub placing_order_of : IsPlacingOrder sizes (map (λ (w : Waiting). w.1) sorted)
  placing_order_of =
      let d : Waiting = (record { 0 = 0 }, 0) in
      let number_of : (k : ℕ) → k < length sorted → get_or order k 0 ≡ (get_or sorted k d).1 = λ k inside. get_or-map (λ (w : Waiting). w.1) sorted k d 0 inside in
      record {
        inside = λ i below.
            All-permutation (λ (e : ℕ). e < length sizes) numbers order same_numbers
            (λ k e there. let l = long in let within : k < length sizes = omega arith in rw (get_or_default numbers k e 0 there, number_at k within) within)
            i 0 below;
        all = λ e within.
            let l = long in
            let there : e < length numbers = omega arith in
            let found = Contains-permutation numbers order e same_numbers (e, there, get_or_default numbers e e 0 there ∙ number_at e within) in
            (found.0, found.1, get_or_default order found.0 0 e found.1 ∙ found.2);
        earlier = λ i j below inside.
            let j_in : j < length sorted = rw (length-map {A = Waiting}) at inside in
            let i_in : i < length sorted = omega arith in
            let turn = in_turn sorted in_order i j d (omega arith) j_in in
            rw (number_of i i_in, number_of j j_in, ← size_at i d i_in, ← size_at j d j_in) (⊎_elim
            (λ (larger : (get_or sorted j d).0.0 < (get_or sorted i d).0.0). inl larger)
            (λ (tie : ((get_or sorted i d).0.0 ≡ (get_or sorted j d).0.0) × ((get_or sorted i d).1 ≤ (get_or sorted j d).1)).
            let apart : (get_or sorted i d).1 ≢ (get_or sorted j d).1 = λ same. (let twice = distinct i j (omega arith) inside (number_of i i_in ∙ same ∙ sym (number_of j j_in)) in omega arith) in
            let up = tie.1 in
            inr (tie.0, omega arith))
            turn);
        total = sum_by-IsPermutation (λ (e : ℕ). slice_index sizes e) numbers order same_numbers ∙ before.total ∙ ap sum (take_all (length sizes) sizes (omega arith));
      }
