-- A walk along the heaviest path, by the least numbers.
use Rattle.std.proofs.Common.{◌≡◌, ℕ, suc, ◌+◌, ◌-◌, ◌<◌, ◌≤◌, ◌⊎◌, inl, inr, ⊎_elim, List, [], ◌∷◌, ◌++◌, Option, Some, None, map, length, arith, refl, sym, ap, subst, ◌∙◌, slice_index, append_assoc}
use Rattle.std.specs.Prelude.{MatchOption}
use Rattle.std.specs.List.{AllByRecursion, Contains}
use Rattle.std.proofs.lemmas.List.{map-id, get_or_default}
use Rattle.std.proofs.lemmas.Bool.{cases_lt}
use Rattle.worker_mapping.specs.Graph.{CostedGraph, AreThere, Rise, IsPriority, nodes_after, greatest}
use Rattle.worker_mapping.specs.Paths.{IsPath, cost_along, IsHeaviestFrom}
use Rattle.worker_mapping.proofs.Lists.{each-append, each-weaker, each-contains}
use Rattle.worker_mapping.proofs.Edges.{each_after}
use Rattle.worker_mapping.proofs.Priorities.{rank-le}
use Rattle.std.proofs.lemmas.List.Elements.{All-contains_itself, recursion_from_All}
use Rattle.schedule_bound.specs.Critical.{IsPathOf, ComesFirst, IsCritical, IsLeastNext}
use Rattle.schedule_bound.proofs.Greatest.{greatest_at, greatest_where}

module _ (edges : List (ℕ × ℕ)) where
  pub path_push : (path : List ℕ) (n m : ℕ) → IsPath edges (path ++ n ∷ []) → Contains edges (n, m) → IsPath edges ((path ++ n ∷ []) ++ m ∷ [])
  path_push [] n m is edge = (edge, tt)
  path_push (x ∷ []) n m is edge = (is.0, (edge, tt))
  path_push (x ∷ y ∷ xs) n m is edge = (is.0, path_push (y ∷ xs) n m is.1 edge)

  path_last : (path : List ℕ) (n m : ℕ) → IsPath edges ((path ++ n ∷ []) ++ m ∷ []) → Contains edges (n, m)
  path_last [] n m is = is.0
  path_last (x ∷ []) n m is = is.1.0
  path_last (x ∷ y ∷ xs) n m is = path_last (y ∷ xs) n m is.1

  path_join : (path : List ℕ) (m : ℕ) (rest : List ℕ) → IsPath edges (path ++ m ∷ []) → IsPath edges (m ∷ rest) → IsPath edges (path ++ m ∷ rest)
  path_join [] m rest front back = back
  path_join (x ∷ []) m rest front back = (front.0, back)
  path_join (x ∷ y ∷ xs) m rest front back = (front.0, path_join (y ∷ xs) m rest front.1 back)

  path_back : (path : List ℕ) (m : ℕ) (rest : List ℕ) → IsPath edges (path ++ m ∷ rest) → IsPath edges (m ∷ rest)
  path_back [] m rest is = is
  path_back (x ∷ []) m rest is = is.1
  path_back (x ∷ y ∷ xs) m rest is = path_back (y ∷ xs) m rest is.1

  path_to : (path : List ℕ) (m : ℕ) (rest : List ℕ) → IsPath edges (path ++ m ∷ rest) → IsPath edges (path ++ m ∷ [])
  path_to [] m rest is = tt
  path_to (x ∷ []) m rest is = (is.0, tt)
  path_to (x ∷ y ∷ xs) m rest is = (is.0, path_to (y ∷ xs) m rest is.1)

pub cost_along-append : (costs a b : List ℕ) → cost_along costs (a ++ b) ≡ cost_along costs a + cost_along costs b
cost_along-append costs [] b = omega arith
cost_along-append costs (n ∷ a) b = let rest = cost_along-append costs a b in omega arith

each_front : (P : ℕ → Type 0) (a b : List ℕ) → AllByRecursion P (a ++ b) → AllByRecursion P a
each_front P [] b all = tt
each_front P (x ∷ a) b all = (all.0, each_front P a b all.1)

each_back : (P : ℕ → Type 0) (a b : List ℕ) → AllByRecursion P (a ++ b) → AllByRecursion P b
each_back P [] b all = all
each_back P (x ∷ a) b all = each_back P a b all.1

-- it has the lesser number at the first place where they differ
abbrev pub Precedes : List ℕ → List ℕ → Type 0
Precedes [] ys = ⊥
Precedes (x ∷ xs) [] = ⊥
Precedes (x ∷ xs) (y ∷ ys) = (x < y) ⊎ ((x ≡ y) × Precedes xs ys)

precedes_longer : (path more other : List ℕ) → Precedes path other → Precedes (path ++ more) other
precedes_longer [] more other h = absurd h
precedes_longer (x ∷ path) more [] h = absurd h
precedes_longer (x ∷ path) more (y ∷ other) (inl less) = inl less
precedes_longer (x ∷ path) more (y ∷ other) (inr same) = inr (same.0, precedes_longer path more other same.1)

precedes_here : (path : List ℕ) (n m : ℕ) (rest : List ℕ) → n < m → Precedes (path ++ n ∷ []) (path ++ m ∷ rest)
precedes_here [] n m rest less = inl less
precedes_here (x ∷ path) n m rest less = inr (refl, precedes_here path n m rest less)

first_by_order : (path other : List ℕ) → Precedes path other → ComesFirst path other
first_by_order [] other h = tt
first_by_order (x ∷ path) [] h = absurd h
first_by_order (x ∷ path) (y ∷ other) (inl less) = inl less
first_by_order (x ∷ path) (y ∷ other) (inr same) = inr (same.0, first_by_order path other same.1)

first_by_length : (path rest : List ℕ) → ComesFirst path (path ++ rest)
first_by_length [] rest = tt
first_by_length (x ∷ path) rest = inr (refl, first_by_length path rest)

-- between an edge and the nodes after its tail
edge_after : (edges : List (ℕ × ℕ)) (n m : ℕ) → Contains (nodes_after edges n) m → Contains edges (n, m)
edge_after edges n m at =
    each-contains (λ b. Contains edges (n, b)) (nodes_after edges n) m
    (each_after (λ b. Contains edges (n, b)) edges n
    (each-weaker (Contains edges) (λ (e : ℕ × ℕ). e.0 ≡ n → Contains edges (n, e.1)) (λ e h same. subst (λ (x : ℕ). Contains edges (x, e.1)) same h) edges (recursion_from_All (Contains edges) edges (All-contains_itself edges))))
    at

pub head_there : (nodes : ℕ) (edges : List (ℕ × ℕ)) (n m : ℕ) → AreThere nodes edges → Contains edges (n, m) → m < nodes
head_there nodes edges n m there at = (each-contains (λ (e : ℕ × ℕ). (e.0 < nodes) × (e.1 < nodes)) edges (n, m) (recursion_from_All (λ (e : ℕ × ℕ). (e.0 < nodes) × (e.1 < nodes)) edges there) at).1

-- the node that the path goes on to: of those from which as much is left it has the least number
abbrev pub IsNext : CostedGraph → List ℕ → List ℕ → ℕ → Option ℕ → Type 0
IsNext graph priority path left None = ⊥
IsNext graph priority path left (Some n) =
    (n < graph.nodes) × (slice_index priority n ≡ left) × IsPathOf graph (path ++ n ∷ [])
    × ((m : ℕ) → IsPathOf graph (path ++ m ∷ []) → slice_index priority m ≡ left → n ≤ m)

-- it falls along a path, since ranks rise
abbrev pub way_left : List ℕ → Option ℕ → ℕ
way_left ranks None = 0
way_left ranks (Some n) = suc (greatest ranks) - slice_index ranks n

pub way_shrinks : (edges : List (ℕ × ℕ)) (ranks costs priority : List ℕ) (n : ℕ) (next : Option ℕ) → Rise ranks edges → IsLeastNext edges costs priority n next → way_left ranks next < way_left ranks (Some n)
way_shrinks edges ranks costs priority n None rise least = let k = rank-le ranks n in omega arith
way_shrinks edges ranks costs priority n (Some m) rise least =
    let more : slice_index ranks n < slice_index ranks m = each-contains (λ (e : ℕ × ℕ). slice_index ranks e.0 < slice_index ranks e.1) edges (n, m) (recursion_from_All (λ (e : ℕ × ℕ). slice_index ranks e.0 < slice_index ranks e.1) edges rise) least.0.0 in
    let k = rank-le ranks m in
    omega arith

-- A path that the critical path begins with, what the rest of it costs, and where it goes on.
pub record IsOnTheWay (graph : CostedGraph) (priority : List ℕ) (cost : ℕ) (path : List ℕ) (left : ℕ) (next : Option ℕ) : Type 0 where
  pub is_path : IsPathOf graph path
  pub so_far : cost_along graph.costs path + left ≡ cost
  pub goes_on : 0 < left → IsNext graph priority path left next
  pub first : (other : List ℕ) → IsPathOf graph other → cost_along graph.costs other ≡ cost → Precedes path other ⊎ ((rest : List ℕ) × (other ≡ path ++ rest))

module _ (graph : CostedGraph) (priority : List ℕ) (there : AreThere graph.nodes graph.edges) (p : IsPriority graph priority) (heavy : (n : ℕ) → n < graph.nodes → IsHeaviestFrom graph n (slice_index priority n)) where
  one_node : (n : ℕ) → n < graph.nodes → IsPathOf graph (n ∷ [])
  one_node n lt = record { there = (lt, tt); joined = tt }

  pub way_start : (next : Option ℕ) → MatchOption next ((n : ℕ) → n < length priority → slice_index priority n ≡ greatest priority → ⊥)
      (λ n. (n < length priority) × (slice_index priority n ≡ greatest priority) × ((k : ℕ) → k < n → slice_index priority k ≡ greatest priority → ⊥))
      → IsOnTheWay graph priority (greatest priority) [] (greatest priority) next
  way_start next found = record {
    is_path = record { there = tt; joined = tt };
    so_far = omega arith;
    goes_on = λ some. starts next found some;
    first = λ other is e. inr (other, refl);
  } where
    starts : (next : Option ℕ) → MatchOption next ((n : ℕ) → n < length priority → slice_index priority n ≡ greatest priority → ⊥)
        (λ n. (n < length priority) × (slice_index priority n ≡ greatest priority) × ((k : ℕ) → k < n → slice_index priority k ≡ greatest priority → ⊥))
        → 0 < greatest priority → IsNext graph priority [] (greatest priority) next
    starts None none some = ⊎_elim
        (λ (zero : greatest (map (λ x. x) priority) ≡ 0). let e = ap greatest (map-id priority) in absurd (omega arith))
        (λ (one : (x : ℕ) × Contains priority x × (x ≡ greatest (map (λ y. y) priority))). none one.1.0 one.1.1 (get_or_default priority one.1.0 0 one.0 one.1.1 ∙ (one.1.2 ∙ (one.2 ∙ ap greatest (map-id priority)))))
        (greatest_where (λ x. x) priority)
    starts (Some n) at some =
        let below : n < graph.nodes = (let l = p.one_each in let h = at.0 in omega arith) in
        (below, at.1, one_node n below, λ m is e. ⊎_elim (λ (less : m < n). absurd (at.2 m less e)) (λ (more : n ≤ m). more) (cases_lt m n))

  -- the nodes of a path are there where its first is
  nodes_there : (n : ℕ) (rest : List ℕ) → n < graph.nodes → IsPath graph.edges (n ∷ rest) → AllByRecursion (λ m. m < graph.nodes) (n ∷ rest)
  nodes_there n [] below is = (below, tt)
  nodes_there n (m ∷ rest) below is = (below, nodes_there m rest (head_there graph.nodes graph.edges n m there is.0) is.1)

  -- no path costs more than the greatest priority
  pub none_heavier : (other : List ℕ) → IsPathOf graph other → cost_along graph.costs other ≤ greatest priority
  none_heavier [] is = omega arith
  none_heavier (n ∷ rest) is =
      let below = is.there.0 in
      let h = (heavy n below).greatest rest is.joined in
      let at : Contains priority (slice_index priority n) = (n, (let l = p.one_each in omega arith), get_or_default priority n (slice_index priority n) 0 (let l = p.one_each in omega arith)) in
      let g = greatest_at (λ x. x) priority (slice_index priority n) at in
      let e = ap greatest (map-id priority) in
      omega arith

  -- what is left of a path that costs as much as any is the priority of its next node
  rest_is : (path : List ℕ) (left m : ℕ) (rest : List ℕ) → cost_along graph.costs path + left ≡ greatest priority
      → IsPathOf graph (path ++ m ∷ rest) → cost_along graph.costs (path ++ m ∷ rest) ≡ greatest priority → slice_index priority m ≡ left
  rest_is path left m rest so_far is e =
      let below : m < graph.nodes = (each_back (λ n. n < graph.nodes) path (m ∷ rest) is.there).0 in
      let h = heavy m below in
      let whole : IsPathOf graph (path ++ m ∷ h.rest) = record {
        there = each-append (λ n. n < graph.nodes) path (m ∷ h.rest) (each_front (λ n. n < graph.nodes) path (m ∷ rest) is.there) (nodes_there m h.rest below h.is_path);
        joined = path_join graph.edges path m h.rest (path_to graph.edges path m rest is.joined) h.is_path;
      } in
      let upper = none_heavier (path ++ m ∷ h.rest) whole in
      let upper_is = cost_along-append graph.costs path (m ∷ h.rest) in
      let reached = h.reached in
      let lower = h.greatest rest (path_back graph.edges path m rest is.joined) in
      let lower_is = cost_along-append graph.costs path (m ∷ rest) in
      omega arith

  -- and what comes next has the priority that is left
  goes_over_next : (path : List ℕ) (n left : ℕ) (next : Option ℕ) → n < graph.nodes → IsPathOf graph (path ++ n ∷ []) → slice_index priority n ≡ slice_index graph.costs n + left → 0 < left
      → IsLeastNext graph.edges graph.costs priority n next → IsNext graph priority (path ++ n ∷ []) left next
  goes_over_next path n left None below is heavy_is some none =
      let e = p.each n below in
      ⊎_elim
      (λ (zero : greatest (map (slice_index priority) (nodes_after graph.edges n)) ≡ 0). absurd (omega arith))
      (λ (one : (x : ℕ) × Contains (nodes_after graph.edges n) x × (slice_index priority x ≡ greatest (map (slice_index priority) (nodes_after graph.edges n)))).
      let at = one.2 in none one.0 (edge_after graph.edges n one.0 one.1, omega arith))
      (greatest_where (slice_index priority) (nodes_after graph.edges n))
  goes_over_next path n left (Some m) below is heavy_is some least =
      let inside : m < graph.nodes = head_there graph.nodes graph.edges n m there least.0.0 in
      let same = least.0.1 in (
        inside,
        omega arith,
        record { there = each-append (λ k. k < graph.nodes) (path ++ n ∷ []) (m ∷ []) is.there (inside, tt); joined = path_push graph.edges path n m is.joined least.0.0 },
        λ k other e. least.1 k (path_last graph.edges path n k other.joined, omega arith),
      )

  pub way_more : (path : List ℕ) (left n : ℕ) (next : Option ℕ) → 0 < left → IsOnTheWay graph priority (greatest priority) path left (Some n) → IsLeastNext graph.edges graph.costs priority n next
      → IsOnTheWay graph priority (greatest priority) (path ++ n ∷ []) (left - slice_index graph.costs n) next
  way_more path left n next some way least =
      let on = way.goes_on some in
      let e = p.each n on.0 in
      let is = on.1 in
      let cost : slice_index graph.costs n ≤ left = omega arith in
      record {
        is_path = on.2;
        so_far = (let s = way.so_far in let a = cost_along-append graph.costs path (n ∷ []) in omega arith);
        goes_on = λ more. goes_over_next path n (left - slice_index graph.costs n) next on.0 on.2 (omega arith) more least;
        first = λ other is_other costs. ⊎_elim
            (λ (before : Precedes path other). inl (precedes_longer path (n ∷ []) other before))
            (λ (same : (rest : List ℕ) × (other ≡ path ++ rest)). continues other same.0 same.1 is_other costs on.3)
            (way.first other is_other costs);
      }
    where
      continues : (other rest : List ℕ) → other ≡ path ++ rest → IsPathOf graph other → cost_along graph.costs other ≡ greatest priority
          → ((m : ℕ) → IsPathOf graph (path ++ m ∷ []) → slice_index priority m ≡ left → n ≤ m)
          → Precedes (path ++ n ∷ []) other ⊎ ((more : List ℕ) × (other ≡ (path ++ n ∷ []) ++ more))
      continues other [] e is_other costs least_next =
          let a = cost_along-append graph.costs path [] in
          let b : cost_along graph.costs (path ++ []) ≡ greatest priority = rw e at costs in
          let s = way.so_far in
          absurd (omega arith)
      continues other (m ∷ rest) e is_other costs least_next =
          let is : IsPathOf graph (path ++ m ∷ rest) = rw e at is_other in
          let to : IsPathOf graph (path ++ m ∷ []) = record {
            there = each-append (λ k. k < graph.nodes) path (m ∷ []) (each_front (λ k. k < graph.nodes) path (m ∷ rest) is.there) ((each_back (λ k. k < graph.nodes) path (m ∷ rest) is.there).0, tt);
            joined = path_to graph.edges path m rest is.joined;
          } in
          let le : n ≤ m = least_next m to (rest_is path left m rest way.so_far is (rw e at costs)) in
          ⊎_elim
          (λ (less : n < m). inl (rw e (precedes_here path n m rest less)))
          (λ (more : m ≤ n). let same : m ≡ n = omega arith in inr (rest, e ∙ (ap (λ k. path ++ k ∷ rest) same ∙ sym (append_assoc path (n ∷ []) rest))))
          (cases_lt n m)

  pub way_end : (path : List ℕ) (left : ℕ) (next : Option ℕ) → left ≡ 0 → IsOnTheWay graph priority (greatest priority) path left next → IsCritical graph path (greatest priority)
  way_end path left next none way = record {
    is_path = way.is_path;
    reached = (let s = way.so_far in omega arith);
    greatest = none_heavier;
    first = λ other is costs. ⊎_elim
        (λ (before : Precedes path other). first_by_order path other before)
        (λ (same : (rest : List ℕ) × (other ≡ path ++ rest)). rw (same.1) (first_by_length path same.0))
        (way.first other is costs);
  }
