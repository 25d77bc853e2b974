-- The neighbours in an order, one node more.
use Rattle.std.proofs.Common.{◌≡◌, ℕ, zero, suc, ◌+◌, ◌-◌, ◌<◌, ◌≤◌, List, [], ◌∷◌, ◌++◌, length, take, slice_index, arith, refl, ap}
use Rattle.order_memory.specs.Orders.{neighbours}

more : (order : List ℕ) (i : ℕ) → suc i < length order → neighbours (take (suc (suc i)) order) ≡ neighbours (take (suc i) order) ++ (slice_index order i, slice_index order (suc i)) ∷ []
more [] i inside = absurd (omega arith)
more (n ∷ []) i inside = absurd (omega arith)
more (n ∷ m ∷ rest) zero inside = refl
more (n ∷ m ∷ rest) (suc i) inside = ap (λ (pairs : List (ℕ × ℕ)). (n, m) ∷ pairs) (more (m ∷ rest) i (omega arith))

pub neighbours_more : (order : List ℕ) (place : ℕ) → 1 ≤ place → place < length order → neighbours (take (place + 1) order) ≡ neighbours (take place order) ++ (slice_index order (place - 1), slice_index order place) ∷ []
neighbours_more order zero some inside = absurd (omega arith)
neighbours_more order (suc i) some inside =
    let next : suc i + 1 ≡ suc (suc i) = omega arith in
    let before : suc i - 1 ≡ i = omega arith in
    rw (next, before) (more order i inside)
