-- Numbers grouped by their keys, one pair more.
use Rattle.std.proofs.Common.{◌≡◌, ℕ, ◌+◌, ◌<◌, true, false, cond, eqb, List, [], ◌∷◌, ◌++◌, map, length, set, slice_index, slice_index_or, suc, arith, refl, ap, ◌∙◌}
use Rattle.std.specs.List.{filter, sum_by}
use Rattle.std.proofs.lemmas.List.{length_push}
use Rattle.std.proofs.lemmas.List.Sums.{sum_by-cons, sum_by-set}
use Rattle.worker_mapping.specs.Graph.{nodes_after}
use Rattle.worker_mapping.specs.Neighbours.{AreAfter}
use Rattle.order_memory.specs.Orders.{AreOrdersOf}

-- one number more in one of the lists
pub whole_more : (lists : List (List ℕ)) (key number : ℕ) → key < length lists → sum_by length (set lists key (slice_index_or lists key [] ++ number ∷ [])) ≡ sum_by length lists + 1
whole_more lists key number inside =
    let changed = sum_by-set {X = List ℕ} length lists key (slice_index_or lists key [] ++ number ∷ []) [] inside in
    let longer = length_push (slice_index_or lists key []) number in
    omega arith

-- no number in empty lists
pub whole_none : (lists : List (List ℕ)) → ((k : ℕ) → k < length lists → slice_index_or lists k [] ≡ []) → sum_by length lists ≡ 0
whole_none [] empty = refl
whole_none (xs ∷ lists) empty =
    let none : length xs ≡ 0 = ap length (empty 0 (omega arith)) in
    let rest = whole_none lists (λ k there. empty (suc k) (omega arith)) in
    let parts = sum_by-cons {X = List ℕ} length xs lists in
    omega arith

-- the numbers with a key, where each number stands beside a key of its own
with_key : (key_of : ℕ → ℕ) (key : ℕ) (numbers : List ℕ) → nodes_after (map (λ (n : ℕ). (key_of n, n)) numbers) key ≡ filter (λ n. eqb (key_of n) key) numbers
with_key key_of key [] = refl
with_key key_of key (n ∷ numbers) = elim (eqb (key_of n) key) as (λ b. map (λ (e : ℕ × ℕ). e.1) (cond b ((key_of n, n) ∷ filter (λ (e : ℕ × ℕ). eqb e.0 key) (map (λ (n : ℕ). (key_of n, n)) numbers)) (filter (λ (e : ℕ × ℕ). eqb e.0 key) (map (λ (n : ℕ). (key_of n, n)) numbers))) ≡ cond b (n ∷ filter (λ n. eqb (key_of n) key) numbers) (filter (λ n. eqb (key_of n) key) numbers)) [
  | true ↦ ap (λ (rest : List ℕ). n ∷ rest) (with_key key_of key numbers)
  | false ↦ with_key key_of key numbers
]

-- the orders of the workers, where each number is a node beside its home
pub grouped_orders : (home : List ℕ) (workers : ℕ) (line : List ℕ) (lists : List (List ℕ)) → AreAfter workers (map (λ (n : ℕ). (slice_index home n, n)) line) lists → AreOrdersOf home workers line lists
grouped_orders home workers line lists grouped = record { one_each = grouped.one_each; each = λ w there. grouped.each w there ∙ with_key (slice_index home) w line }
