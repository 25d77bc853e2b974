-- The priorities by recursion over ranks, which every list of priorities has.
use Rattle.std.proofs.Common.{◌≡◌, ℕ, zero, suc, ◌+◌, ◌*◌, ◌-◌, ◌<◌, ◌≤◌, ◌⊎◌, inl, inr, ⊎_elim, List, [], ◌∷◌, ◌++◌, map, length, set, get_or, slice_index, arith, refl, ap, sym, ◌∙◌}
use Rattle.std.specs.List.{AllByRecursion, Contains, All}
use Rattle.std.specs.List.Sorted.{IsNonDecreasingBy}
use Rattle.std.proofs.lemmas.List.{length-set, length_push, get_or_default, ext_get_or, get_or-set_same, get_or-set_other, get_or_push, get_or_append_left}
use Rattle.std.proofs.lemmas.List.Elements.{Contains-push_cases}
use Rattle.std.proofs.lemmas.Bool.{cases_eq}
use Rattle.worker_mapping.specs.Graph.{CostedGraph, nodes_after, greatest, IsPriority, AreThere, Rise}
use Rattle.worker_mapping.specs.Ranked.{IsByRank}
use Rattle.worker_mapping.specs.Growing.{most_cost}
use Rattle.worker_mapping.proofs.Lists.{greatest-le, each-weaker, each-map, each-always, map-agree}
use Rattle.worker_mapping.proofs.Edges.{after_is_there}

-- the heaviest path of at most so many nodes
unfoldable pub heaviest : CostedGraph → ℕ → ℕ → ℕ
heaviest graph zero n = 0
heaviest graph (suc most) n = slice_index graph.costs n + greatest (map (heaviest graph most) (nodes_after graph.edges n))

-- the priority of a node
abbrev pub priority_of : CostedGraph → List ℕ → ℕ → ℕ
priority_of graph ranks n = heaviest graph (suc (greatest ranks)) n

pub rank-le : (ranks : List ℕ) (n : ℕ) → slice_index ranks n ≤ greatest ranks
rank-le [] n = omega arith
rank-le (r ∷ ranks) zero = omega arith
rank-le (r ∷ ranks) (suc n) = let h = rank-le ranks n in omega arith

module _ (graph : CostedGraph) (ranks : List ℕ) (there : AreThere graph.nodes graph.edges) (rise : Rise ranks graph.edges) where
  -- more nodes than ranks are left make no path heavier
  heaviest-stable : (most n : ℕ) → greatest ranks < slice_index ranks n + most → heaviest graph most n ≡ heaviest graph (suc most) n
  unfolding heaviest
  heaviest-stable zero n h = let k = rank-le ranks n in absurd (omega arith)
  heaviest-stable (suc most) n h =
      ap (λ (xs : List ℕ). slice_index graph.costs n + greatest xs) (map-agree (heaviest graph most) (heaviest graph (suc most)) (nodes_after graph.edges n)
      (each-weaker (λ b. (b < graph.nodes) × (slice_index ranks n < slice_index ranks b)) (λ b. heaviest graph most b ≡ heaviest graph (suc most) b) (λ b k. heaviest-stable most b (let r = k.1 in omega arith)) (nodes_after graph.edges n)
      (after_is_there graph.nodes ranks graph.edges n there rise)))

  pub priority_of-step : (n : ℕ) → priority_of graph ranks n ≡ slice_index graph.costs n + greatest (map (priority_of graph ranks) (nodes_after graph.edges n))
  unfolding heaviest
  priority_of-step n =
      ap (λ (xs : List ℕ). slice_index graph.costs n + greatest xs) (map-agree (heaviest graph (greatest ranks)) (priority_of graph ranks) (nodes_after graph.edges n)
      (each-weaker (λ b. (b < graph.nodes) × (slice_index ranks n < slice_index ranks b)) (λ b. heaviest graph (greatest ranks) b ≡ priority_of graph ranks b) (λ b k. heaviest-stable (greatest ranks) b (let r = k.1 in omega arith)) (nodes_after graph.edges n)
      (after_is_there graph.nodes ranks graph.edges n there rise)))

  -- a list that has it at each node is a list of priorities
  pub IsPriority-from : (priority : List ℕ) → length priority ≡ graph.nodes → ((n : ℕ) → n < graph.nodes → slice_index priority n ≡ priority_of graph ranks n) → IsPriority graph priority
  IsPriority-from priority long each = record {
    one_each = long;
    each = λ n below. each n below ∙ priority_of-step n ∙ ap (λ (xs : List ℕ). slice_index graph.costs n + greatest xs) (map-agree (priority_of graph ranks) (slice_index priority) (nodes_after graph.edges n)
        (each-weaker (λ b. (b < graph.nodes) × (slice_index ranks n < slice_index ranks b)) (λ b. priority_of graph ranks b ≡ slice_index priority b) (λ b k. sym (each b k.0)) (nodes_after graph.edges n)
        (after_is_there graph.nodes ranks graph.edges n there rise)));
  }

  -- and every list of priorities has it
  pub priority-is : (priority : List ℕ) → IsPriority graph priority → (most n : ℕ) → n < graph.nodes → greatest ranks < slice_index ranks n + most → slice_index priority n ≡ heaviest graph most n
  unfolding heaviest
  priority-is priority p zero n below h = let k = rank-le ranks n in absurd (omega arith)
  priority-is priority p (suc most) n below h =
      p.each n below ∙ ap (λ (xs : List ℕ). slice_index graph.costs n + greatest xs) (map-agree (slice_index priority) (heaviest graph most) (nodes_after graph.edges n)
      (each-weaker (λ b. (b < graph.nodes) × (slice_index ranks n < slice_index ranks b)) (λ b. slice_index priority b ≡ heaviest graph most b) (λ b k. priority-is priority p most b k.0 (let r = k.1 in omega arith)) (nodes_after graph.edges n)
      (after_is_there graph.nodes ranks graph.edges n there rise)))

  -- so the priorities are one list
  pub IsPriority-unique : (priority other : List ℕ) → IsPriority graph priority → IsPriority graph other → priority ≡ other
  IsPriority-unique priority other p q = ext_get_or 0 priority other (p.one_each ∙ sym q.one_each)
      (λ n below. (let l = p.one_each in let inside : n < graph.nodes = omega arith in let k = rank-le ranks n in
      let far : greatest ranks < slice_index ranks n + suc (greatest ranks) = omega arith in
      priority-is priority p (suc (greatest ranks)) n inside far ∙ sym (priority-is other q (suc (greatest ranks)) n inside far)))

  -- what is kept while the nodes are taken from the greatest rank down
  pub record AreRanked (order : List (ℕ × ℕ)) (priority : List ℕ) : Type 0 where
    pub long : length priority ≡ graph.nodes
    pub short : length order ≤ graph.nodes
    pub each : (n : ℕ) → n < graph.nodes → (slice_index priority n ≡ priority_of graph ranks n) ⊎ Contains order (slice_index ranks n, n)
    pub listed : All (λ (e : ℕ × ℕ). (e.1 < graph.nodes) × (e.0 ≡ slice_index ranks e.1)) order
    pub rising : IsNonDecreasingBy (λ (e : ℕ × ℕ). e.0) order
    pub bounded : (n : ℕ) → slice_index priority n + length order * most_cost ≤ graph.nodes * most_cost

  -- at the start every node is listed, and at the end none
  pub AreRanked-first : (order : List (ℕ × ℕ)) (priority : List ℕ) → length ranks ≡ graph.nodes → IsByRank ranks order → length priority ≡ graph.nodes → ((n : ℕ) → slice_index priority n ≡ 0) → AreRanked order priority
  AreRanked-first order priority same h long none = record {
    long = long;
    short = (let l = h.long in omega arith);
    each = λ n below. inr (h.every n (omega arith));
    listed = rw same at h.each;
    rising = h.rising;
    bounded = λ n. (let z = none n in let l = h.long ∙ same in rw l (omega arith));
  }

  pub AreRanked-last : (priority : List ℕ) → AreRanked [] priority → IsPriority graph priority
  AreRanked-last priority h = IsPriority-from priority h.long
      (λ n below. ⊎_elim
      (λ (known : slice_index priority n ≡ priority_of graph ranks n). known)
      (λ (listed : Contains [] (slice_index ranks n, n)). let none = listed.1 in absurd (omega arith))
      (h.each n below))

  module _ (rest : List (ℕ × ℕ)) (e : ℕ × ℕ) (priority : List ℕ) (h : AreRanked (rest ++ e ∷ []) priority) where
    pub last_is : (e.1 < graph.nodes) × (e.0 ≡ slice_index ranks e.1)
    last_is =
        let at : get_or (rest ++ e ∷ []) (length rest) e ≡ e = get_or_push rest e e (length rest) refl in
        let l = length_push rest e in
        rw at at (h.listed (length rest) e (omega arith))

    -- a node of greater rank has its priority already
    known_after : (b : ℕ) → b < graph.nodes → slice_index ranks e.1 < slice_index ranks b → slice_index priority b ≡ priority_of graph ranks b
    known_after b below higher = ⊎_elim
        (λ (known : slice_index priority b ≡ priority_of graph ranks b). known)
        (λ (listed : Contains (rest ++ e ∷ []) (slice_index ranks b, b)).
        let l = length_push rest e in
        let inside : listed.0 < length (rest ++ e ∷ []) = listed.1 in
        let up : (get_or (rest ++ e ∷ []) listed.0 e).0 ≤ (get_or (rest ++ e ∷ []) (length rest) e).0 = h.rising listed.0 (length rest) e (omega arith) (omega arith) in
        let at : get_or (rest ++ e ∷ []) (length rest) e ≡ e = get_or_push rest e e (length rest) refl in
        let same : get_or (rest ++ e ∷ []) listed.0 e ≡ (slice_index ranks b, b) = get_or_default (rest ++ e ∷ []) listed.0 e (slice_index ranks b, b) inside ∙ listed.2 in
        let rank : slice_index ranks b ≤ e.0 = rw (at, same) at up in
        absurd (let y = last_is.1 in omega arith))
        (h.each b below)

    -- the priority of the last node, by those of the nodes after it
    pub next_is : slice_index graph.costs e.1 + greatest (map (slice_index priority) (nodes_after graph.edges e.1)) ≡ priority_of graph ranks e.1
    next_is = ap (λ (xs : List ℕ). slice_index graph.costs e.1 + greatest xs) (map-agree (slice_index priority) (priority_of graph ranks) (nodes_after graph.edges e.1)
        (each-weaker (λ b. (b < graph.nodes) × (slice_index ranks e.1 < slice_index ranks b)) (λ b. slice_index priority b ≡ priority_of graph ranks b) (λ b k. known_after b k.0 k.1) (nodes_after graph.edges e.1)
        (after_is_there graph.nodes ranks graph.edges e.1 there rise)))
        ∙ sym (priority_of-step e.1)

    -- the nodes after it have entries
    pub heads_inside : AllByRecursion (λ b. b < length priority) (nodes_after graph.edges e.1)
    heads_inside = each-weaker (λ b. (b < graph.nodes) × (slice_index ranks e.1 < slice_index ranks b)) (λ b. b < length priority) (λ b k. let l = h.long in let j = k.0 in omega arith) (nodes_after graph.edges e.1)
        (after_is_there graph.nodes ranks graph.edges e.1 there rise)

    -- and its bound
    pub next_small : ((n : ℕ) → slice_index graph.costs n ≤ most_cost) → slice_index graph.costs e.1 + greatest (map (slice_index priority) (nodes_after graph.edges e.1)) + length rest * most_cost ≤ graph.nodes * most_cost
    next_small cheap =
        let l = length_push rest e in
        let short = h.short in
        let all : greatest (map (slice_index priority) (nodes_after graph.edges e.1)) ≤ graph.nodes * most_cost - (length rest + 1) * most_cost =
        greatest-le (graph.nodes * most_cost - (length rest + 1) * most_cost) (map (slice_index priority) (nodes_after graph.edges e.1))
        (each-map (λ x. x ≤ graph.nodes * most_cost - (length rest + 1) * most_cost) (slice_index priority) (nodes_after graph.edges e.1)
        (each-always (λ b. slice_index priority b ≤ graph.nodes * most_cost - (length rest + 1) * most_cost) (λ b. let k = rw l at (h.bounded b) in omega arith) (nodes_after graph.edges e.1))) in
        let cost = cheap e.1 in
        omega arith

    pub AreRanked-step : ((n : ℕ) → slice_index graph.costs n ≤ most_cost) → AreRanked rest (set priority e.1 (slice_index graph.costs e.1 + greatest (map (slice_index priority) (nodes_after graph.edges e.1))))
    AreRanked-step cheap =
        let v : ℕ = slice_index graph.costs e.1 + greatest (map (slice_index priority) (nodes_after graph.edges e.1)) in
        let l = length_push rest e in
        let inside : e.1 < length priority = (let k = h.long in let b = last_is.0 in omega arith) in
        record {
          long = length-set priority e.1 v ∙ h.long;
          short = (let k = h.short in omega arith);
          each = λ n below. ⊎_elim
              (λ (own : e.1 ≡ n). inl (rw (← own) (get_or-set_same priority e.1 v 0 inside ∙ next_is)))
              (λ (other : e.1 ≡ n → ⊥). ⊎_elim
              (λ (known : slice_index priority n ≡ priority_of graph ranks n). inl (get_or-set_other priority e.1 n v 0 (λ q. other (sym q)) ∙ known))
              (λ (listed : Contains (rest ++ e ∷ []) (slice_index ranks n, n)). ⊎_elim
              (λ (still : Contains rest (slice_index ranks n, n)). inr still)
              (λ (last : e ≡ (slice_index ranks n, n)). absurd (other (ap (λ (x : ℕ × ℕ). x.1) last)))
              (Contains-push_cases rest e (slice_index ranks n, n) listed))
              (h.each n below))
              (cases_eq e.1 n);
          listed = λ k d inner. rw get_or_append_left at (h.listed k d (omega arith));
          rising = λ i j d le inner. (let lesser : i < length rest = omega arith in rw (get_or_append_left rest (e ∷ []) d i lesser, get_or_append_left rest (e ∷ []) d j inner) at (h.rising i j d le (omega arith)));
          bounded = λ n. ⊎_elim
              (λ (own : e.1 ≡ n). rw (← own, get_or-set_same priority e.1 v 0 inside) (next_small cheap))
              (λ (other : e.1 ≡ n → ⊥). rw (get_or-set_other priority e.1 n v 0 (λ q. other (sym q))) (let k = rw l at (h.bounded n) in omega arith))
              (cases_eq e.1 n);
        }
