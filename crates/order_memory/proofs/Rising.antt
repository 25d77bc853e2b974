-- The places in the line rise along the edges and from each node of an order to the next.
use Rattle.std.proofs.Common.{◌≡◌, ℕ, suc, ◌+◌, ◌<◌, ◌≤◌, Bool, true, false, cond, List, [], ◌∷◌, length, take, slice_index, get_or, arith, sym, ◌∙◌}
use Rattle.std.specs.List.{All, AllByRecursion, Contains, filter, flat_map, sum_by}
use Rattle.std.proofs.lemmas.List.{get_or_default, length-append}
use Rattle.std.proofs.lemmas.List.Concat.{length-flat_map}
use Rattle.std.proofs.lemmas.List.Elements.{All-append, All-weaker, All-from_recursion, All-from_get_or, recursion_from_All}
use Rattle.std.proofs.lemmas.List.Sums.{sum_by-le-sum_by}
use Rattle.worker_mapping.specs.Graph.{AreThere, Rise}
use Rattle.worker_mapping.proofs.Lists.{each-append, each-filter}
use Rattle.order_memory.specs.Line.{IsLine}
use Rattle.order_memory.specs.Orders.{AreOrdersOf, neighbours, after_of}
use Rattle.order_memory.proofs.Standing.{all_there, in_front, place_in_front}

-- each node of the list is there, and the ranks of all behind it are higher
abbrev Climbs : ℕ → List ℕ → List ℕ → Type 0
Climbs nodes ranks [] = Unit {0}
Climbs nodes ranks (n ∷ rest) = (n < nodes) × (AllByRecursion (λ m. slice_index ranks n < slice_index ranks m) rest × Climbs nodes ranks rest)

-- an edge between nodes, to a higher rank
abbrev IsUp : ℕ → List ℕ → ℕ × ℕ → Type 0
IsUp nodes ranks e = ((e.0 < nodes) × (e.1 < nodes)) × (slice_index ranks e.0 < slice_index ranks e.1)

module _ (nodes : ℕ) (ranks : List ℕ) where
  line_climbs : (k : ℕ) (xs : List ℕ) → ((i : ℕ) → i < length xs → slice_index xs i < nodes) → ((i : ℕ) → i < length xs → slice_index ranks (slice_index xs i) ≡ k + i) → Climbs nodes ranks xs
  line_climbs k [] there places = tt
  line_climbs k (x ∷ xs) there places =
      let first : slice_index ranks x ≡ k + 0 = places 0 (omega arith) in (
        there 0 (omega arith),
        (
          recursion_from_All (λ m. slice_index ranks x < slice_index ranks m) xs (All-from_get_or (λ m. slice_index ranks x < slice_index ranks m) xs 0 (λ i inside. let later : slice_index ranks (slice_index xs i) ≡ k + suc i = places (suc i) (omega arith) in omega arith)),
          line_climbs (k + 1) xs (λ i inside. there (suc i) (omega arith)) (λ i inside. let later : slice_index ranks (slice_index xs i) ≡ k + suc i = places (suc i) (omega arith) in omega arith),
        ),
      )

  filter_climbs : (p : ℕ → Bool) (xs : List ℕ) → Climbs nodes ranks xs → Climbs nodes ranks (filter p xs)
  filter_climbs p [] climbs = tt
  filter_climbs p (x ∷ xs) climbs = elim (p x) as (λ b. Climbs nodes ranks (cond b (x ∷ filter p xs) (filter p xs))) [
    | true ↦ (climbs.0, (each-filter (λ m. slice_index ranks x < slice_index ranks m) p xs climbs.1.0, filter_climbs p xs climbs.1.1))
    | false ↦ filter_climbs p xs climbs.1.1
  ]

  neighbours_up : (xs : List ℕ) → Climbs nodes ranks xs → AllByRecursion (IsUp nodes ranks) (neighbours xs)
  neighbours_up [] climbs = tt
  neighbours_up (x ∷ []) climbs = tt
  neighbours_up (x ∷ y ∷ rest) climbs = (((climbs.0, climbs.1.1.0), climbs.1.0.0), neighbours_up (y ∷ rest) climbs.1.1)

  all_neighbours_up : (orders : List (List ℕ)) → AllByRecursion (Climbs nodes ranks) orders → AllByRecursion (IsUp nodes ranks) (flat_map neighbours orders)
  all_neighbours_up [] all = tt
  all_neighbours_up (order ∷ orders) all = each-append (IsUp nodes ranks) (neighbours order) (flat_map neighbours orders) (neighbours_up order all.0) (all_neighbours_up orders all.1)

  module _ (edges : List (ℕ × ℕ)) (line : List ℕ) (is_line : IsLine nodes edges line) (places : (i : ℕ) → i < length line → slice_index ranks (slice_index line i) ≡ i) where
    edges_up : AreThere nodes edges → All (IsUp nodes ranks) edges
    edges_up there k d inside =
        let e : ℕ × ℕ = get_or edges k d in
        let head : Contains line e.1 = is_line.all e.1 (there k d inside).1 in
        let here : slice_index line head.0 ≡ e.1 = get_or_default line head.0 0 e.1 head.1 ∙ head.2 in
        let tail = place_in_front line head.0 e.0 (let b = head.1 in omega arith) ((is_line.each head.0 head.1).is_open.tails k d inside (sym here)) in
        let head_place : slice_index ranks e.1 ≡ head.0 = rw here at (places head.0 head.1) in
        let tail_place : slice_index ranks e.0 ≡ tail.0 = rw tail.2 at (places tail.0 (let b = head.1 in let a = tail.1 in omega arith)) in
        let before = tail.1 in
        (there k d inside, omega arith)

    orders_climb : (home : List ℕ) (workers : ℕ) (orders : List (List ℕ)) → AreOrdersOf home workers line orders → All (Climbs nodes ranks) orders
    orders_climb home workers orders of_line w d inside =
        rw (get_or_default orders w d [] inside, of_line.each w (let long = of_line.one_each in omega arith))
        (filter_climbs _ line (line_climbs 0 line (λ i below. all_there nodes edges line is_line.each i 0 below) (λ i below. let at = places i below in omega arith)))

    after_up : (home : List ℕ) (workers : ℕ) (orders : List (List ℕ)) → AreOrdersOf home workers line orders → AreThere nodes edges → All (IsUp nodes ranks) (after_of edges orders)
    after_up home workers orders of_line there = All-append (IsUp nodes ranks) edges (flat_map neighbours orders) (edges_up there)
        (All-from_recursion (IsUp nodes ranks) (flat_map neighbours orders) (all_neighbours_up orders (recursion_from_All (Climbs nodes ranks) orders (orders_climb home workers orders of_line))))

    -- what stands before a node in its order stands before it in the line
    pub in_front_of : (home : List ℕ) (workers : ℕ) (orders : List (List ℕ)) → AreOrdersOf home workers line orders → (k : ℕ) → k < length line → All (λ order. All (λ e. e.1 ≡ slice_index line k → Contains (take k line) e.0) (neighbours order)) orders
    in_front_of home workers orders of_line k inside = All-weaker (Climbs nodes ranks) (λ order. All (λ e. e.1 ≡ slice_index line k → Contains (take k line) e.0) (neighbours order))
        (λ order climbs. All-weaker (IsUp nodes ranks) (λ (e : ℕ × ℕ). e.1 ≡ slice_index line k → Contains (take k line) e.0)
        (λ e up same.
        let tail = is_line.all e.0 up.0.0 in
        let here : slice_index line tail.0 ≡ e.0 = get_or_default line tail.0 0 e.0 tail.1 ∙ tail.2 in
        let tail_place : slice_index ranks e.0 ≡ tail.0 = rw here at (places tail.0 tail.1) in
        let head_place : slice_index ranks e.1 ≡ k = rw same (places k inside) in
        let rises = up.1 in
        rw (← here) (in_front line tail.0 k (omega arith) (omega arith)))
        (neighbours order) (All-from_recursion (IsUp nodes ranks) (neighbours order) (neighbours_up order climbs)))
        orders (orders_climb home workers orders of_line)

    module _ (home : List ℕ) (workers : ℕ) (orders : List (List ℕ)) (of_line : AreOrdersOf home workers line orders) (there : AreThere nodes edges) where
      pub after_there : AreThere nodes (after_of edges orders)
      after_there = All-weaker (IsUp nodes ranks) (λ (e : ℕ × ℕ). (e.0 < nodes) × (e.1 < nodes)) (λ e up. up.0) (after_of edges orders) (after_up home workers orders of_line there)

      pub after_rises : Rise ranks (after_of edges orders)
      after_rises = All-weaker (IsUp nodes ranks) (λ (e : ℕ × ℕ). slice_index ranks e.0 < slice_index ranks e.1) (λ e up. up.1) (after_of edges orders) (after_up home workers orders of_line there)

-- an order has fewer neighbours than nodes
length-neighbours : (order : List ℕ) → length (neighbours order) ≤ length order
length-neighbours [] = omega arith
length-neighbours (n ∷ []) = omega arith
length-neighbours (n ∷ m ∷ rest) = let more = length-neighbours (m ∷ rest) in omega arith

pub length-after_of : (edges : List (ℕ × ℕ)) (orders : List (List ℕ)) → length (after_of edges orders) ≤ length edges + sum_by length orders
length-after_of edges orders =
    let whole = length-append edges (flat_map neighbours orders) in
    let pairs = length-flat_map neighbours orders in
    let fewer = sum_by-le-sum_by {X = List ℕ} (λ order. length (neighbours order)) length orders length-neighbours in
    omega arith
