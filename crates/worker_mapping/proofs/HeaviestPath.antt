-- The priority of a node is the cost of the heaviest path from it.
use Rattle.std.proofs.Common.{◌≡◌, ℕ, zero, suc, ◌+◌, ◌<◌, ◌≤◌, ⊎_elim, true, false, cond, eqb, List, [], ◌∷◌, map, length, get_or, slice_index, arith, refl, ap, subst}
use Rattle.std.specs.List.{AllByRecursion, Contains, filter}
use Rattle.std.proofs.lemmas.List.Elements.{All-contains_itself, recursion_from_All}
use Rattle.std.proofs.lemmas.Bool.{cases_lt, eq-eqb}
use Rattle.worker_mapping.specs.Graph.{CostedGraph, nodes_after, greatest, IsPriority, AreThere, Rise}
use Rattle.worker_mapping.specs.Paths.{IsPath, cost_along, IsHeaviestFrom}
use Rattle.worker_mapping.proofs.Lists.{greatest-bounds, each-weaker, each-contains, each-unmap}
use Rattle.worker_mapping.proofs.Priorities.{rank-le}
use Rattle.worker_mapping.proofs.Edges.{each_after, after_is_there, heads_are_there}

-- between an edge and the nodes after its tail
after_first : (e : ℕ × ℕ) (edges : List (ℕ × ℕ)) (n m : ℕ) → e ≡ (n, m) → Contains (nodes_after (e ∷ edges) n) m
after_first e edges n m same = rw (eq-eqb e.0 n (ap (λ (x : ℕ × ℕ). x.0) same)) (0, omega arith, ap (λ (x : ℕ × ℕ). x.1) same)

after_later : (e : ℕ × ℕ) (edges : List (ℕ × ℕ)) (n m : ℕ) → Contains (nodes_after edges n) m → Contains (nodes_after (e ∷ edges) n) m
after_later e edges n m h = elim (eqb e.0 n) as (λ b. Contains (map (λ (x : ℕ × ℕ). x.1) (cond b (e ∷ filter (λ (x : ℕ × ℕ). eqb x.0 n) edges) (filter (λ (x : ℕ × ℕ). eqb x.0 n) edges))) m) [ true ↦ (suc h.0, (let k = h.1 in omega arith), h.2) | false ↦ h ]

after_edge_at : (edges : List (ℕ × ℕ)) (n m k : ℕ) → k < length edges → get_or edges k (n, m) ≡ (n, m) → Contains (nodes_after edges n) m
after_edge_at [] n m k below same = absurd (omega arith)
after_edge_at (e ∷ edges) n m zero below same = after_first e edges n m same
after_edge_at (e ∷ edges) n m (suc k) below same = after_later e edges n m (after_edge_at edges n m k (omega arith) same)

after_edge : (edges : List (ℕ × ℕ)) (n m : ℕ) → Contains edges (n, m) → Contains (nodes_after edges n) m
after_edge edges n m at = after_edge_at edges n m at.0 at.1 at.2

edge_after : (edges : List (ℕ × ℕ)) (n m : ℕ) → Contains (nodes_after edges n) m → Contains edges (n, m)
edge_after edges n m at =
    each-contains (λ b. Contains edges (n, b)) (nodes_after edges n) m
    (each_after (λ b. Contains edges (n, b)) edges n
    (each-weaker (Contains edges) (λ (e : ℕ × ℕ). e.0 ≡ n → Contains edges (n, e.1)) (λ e h same. subst (λ (x : ℕ). Contains edges (x, e.1)) same h) edges (recursion_from_All (Contains edges) edges (All-contains_itself edges))))
    at

-- the greatest of some values is that of one of them
IsReached : (ℕ → ℕ) → List ℕ → Type 0
IsReached f xs = (m : ℕ) × Contains xs m × (f m ≡ greatest (map f xs))

reached_one : (f : ℕ → ℕ) (x : ℕ) → IsReached f (x ∷ [])
unfolding IsReached
reached_one f x = (x, (0, omega arith, refl), omega arith)

reached_more : (f : ℕ → ℕ) (x : ℕ) (xs : List ℕ) → IsReached f xs → IsReached f (x ∷ xs)
unfolding IsReached
reached_more f x xs rest = ⊎_elim
    (λ (less : f x < greatest (map f xs)). (rest.0, (suc rest.1.0, (let k = rest.1.1 in omega arith), rest.1.2), (let e = rest.2 in omega arith)))
    (λ (more : greatest (map f xs) ≤ f x). (x, (0, omega arith, refl), omega arith))
    (cases_lt (f x) (greatest (map f xs)))

reached : (f : ℕ → ℕ) (x : ℕ) (xs : List ℕ) → IsReached f (x ∷ xs)
reached f x [] = reached_one f x
reached f x (y ∷ ys) = reached_more f x (y ∷ ys) (reached f y ys)

module _ (graph : CostedGraph) (ranks priority : List ℕ) (there : AreThere graph.nodes graph.edges) (rise : Rise ranks graph.edges) (p : IsPriority graph priority) where
  -- no path from a node costs more than its priority
  cost_along-le : (path : List ℕ) (n : ℕ) → n < graph.nodes → IsPath graph.edges (n ∷ path) → cost_along graph.costs (n ∷ path) ≤ slice_index priority n
  cost_along-le [] n below is = let e = p.each n below in omega arith
  cost_along-le (m ∷ path) n below is =
      let next : Contains (nodes_after graph.edges n) m = after_edge graph.edges n m is.0 in
      let inside : m < graph.nodes = each-contains (λ b. b < graph.nodes) (nodes_after graph.edges n) m (heads_are_there graph.nodes graph.edges n there) next in
      let rest = cost_along-le path m inside is.1 in
      let bound : slice_index priority m ≤ greatest (map (slice_index priority) (nodes_after graph.edges n)) = mapped (slice_index priority) (nodes_after graph.edges n) m next in
      let e = p.each n below in
      omega arith where
        mapped : (f : ℕ → ℕ) (xs : List ℕ) (x : ℕ) → Contains xs x → f x ≤ greatest (map f xs)
        mapped f xs x at = each-contains (λ y. f y ≤ greatest (map f xs)) xs x (each-unmap (λ y. y ≤ greatest (map f xs)) f xs (greatest-bounds (map f xs))) at

  Heaviest : ℕ → Type 0
  Heaviest n = (rest : List ℕ) × IsPath graph.edges (n ∷ rest) × (cost_along graph.costs (n ∷ rest) ≡ slice_index priority n)

  -- some path costs as much, as one does for each node after it
  path_step : (n : ℕ) (heads : List ℕ) → n < graph.nodes → nodes_after graph.edges n ≡ heads → AllByRecursion Heaviest heads → Heaviest n
  unfolding Heaviest IsReached
  path_step n [] below none all = ([], tt, (let e = p.each n below in let g : slice_index priority n ≡ slice_index graph.costs n + 0 = rw none at e in omega arith))
  path_step n (x ∷ xs) below some all =
      let top : IsReached (slice_index priority) (x ∷ xs) = reached (slice_index priority) x xs in
      let path = each-contains (λ b. (rest : List ℕ) × IsPath graph.edges (b ∷ rest) × (cost_along graph.costs (b ∷ rest) ≡ slice_index priority b)) (x ∷ xs) top.0 all top.1 in
      let edge : Contains graph.edges (n, top.0) = edge_after graph.edges n top.0 (rw some top.1) in
      let e : slice_index priority n ≡ slice_index graph.costs n + greatest (map (slice_index priority) (x ∷ xs)) = rw some at (p.each n below) in
      let costs = path.2 in
      let most = top.2 in
      (top.0 ∷ path.0, (edge, path.1), omega arith)

  path_from : (most n : ℕ) → n < graph.nodes → greatest ranks < slice_index ranks n + most → Heaviest n
  path_from zero n below h = let k = rank-le ranks n in absurd (omega arith)
  path_from (suc most) n below h = path_step n (nodes_after graph.edges n) below refl
      (each-weaker (λ b. (b < graph.nodes) × (slice_index ranks n < slice_index ranks b)) Heaviest (λ b k. path_from most b k.0 (let r = k.1 in omega arith)) (nodes_after graph.edges n)
      (after_is_there graph.nodes ranks graph.edges n there rise))

  pub IsPriority-heaviest : (n : ℕ) → n < graph.nodes → IsHeaviestFrom graph n (slice_index priority n)
  unfolding Heaviest
  IsPriority-heaviest n below =
      let path = path_from (suc (greatest ranks)) n below (let k = rank-le ranks n in omega arith) in
      record { rest = path.0; is_path = path.1; reached = path.2; greatest = λ other is. cost_along-le other n below is }
