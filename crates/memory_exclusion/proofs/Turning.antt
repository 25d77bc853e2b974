-- The paths of a graph whose edges are turned round.
use Rattle.std.proofs.Common.{◌≡◌, ℕ, ◌-◌, ◌<◌, ◌≤◌, List, length, map, slice_index, get_or, All, sym, ap, ◌∙◌, arith}
use Rattle.std.proofs.lemmas.List.{get_or-map, length-map}
use Rattle.std.proofs.lemmas.List.Elements.{All-map, All-weaker}
use Rattle.memory_exclusion.specs.Paths.{IsPath}
use Rattle.memory_exclusion.specs.Closure.{turned}
use Rattle.memory_exclusion.proofs.Chains.{IsEdge, Comes, first, next, path_of, comes_by}

-- the k-th edge of the turned graph is the k-th edge
pub turned_edge : (edges : List (ℕ × ℕ)) (k v w : ℕ) → IsEdge (turned edges) k v w → IsEdge edges k w v
turned_edge edges k v w edge =
    let inside : k < length edges = rw (length-map {A = ℕ × ℕ}) at edge.inside in
    let at : get_or (turned edges) k (0, 0) ≡ ((get_or edges k (0, 0)).1, (get_or edges k (0, 0)).0) = get_or-map (λ (e : ℕ × ℕ). (e.1, e.0)) edges k (0, 0) (0, 0) inside in
    record {
      inside = inside;
      tail = sym (ap (λ (pair : ℕ × ℕ). pair.1) at) ∙ edge.head;
      head = sym (ap (λ (pair : ℕ × ℕ). pair.0) at) ∙ edge.tail;
    }

pub edge_turned : (edges : List (ℕ × ℕ)) (k v w : ℕ) → IsEdge edges k v w → IsEdge (turned edges) k w v
edge_turned edges k v w edge =
    let at : get_or (turned edges) k (0, 0) ≡ ((get_or edges k (0, 0)).1, (get_or edges k (0, 0)).0) = get_or-map (λ (e : ℕ × ℕ). (e.1, e.0)) edges k (0, 0) (0, 0) edge.inside in
    record {
      inside = rw (length-map {A = ℕ × ℕ}) edge.inside;
      tail = ap (λ (pair : ℕ × ℕ). pair.0) at ∙ edge.head;
      head = ap (λ (pair : ℕ × ℕ). pair.1) at ∙ edge.tail;
    }

-- one edge more at the front
goes_before : (edges : List (ℕ × ℕ)) (k v : ℕ) {u w : ℕ} → IsEdge edges k v u → Comes edges u w → Comes edges v w
goes_before edges k v edge (first j last) = next j (first k edge) last
goes_before edges k v edge (next j before last) = next j (goes_before edges k v edge before) last

comes_turned : (one other : List (ℕ × ℕ)) → ((k v w : ℕ) → IsEdge one k v w → IsEdge other k w v) → {v w : ℕ} → Comes one v w → Comes other w v
comes_turned one other turns (first k edge) = first k (turns k _ _ edge)
comes_turned one other turns (next {u = u} {w = w} k before edge) = goes_before other k w (turns k u w edge) (comes_turned one other turns before)

pub path_of_turned : (edges : List (ℕ × ℕ)) (v w : ℕ) (path : List (ℕ × ℕ)) → IsPath (turned edges) v w path → (back : List (ℕ × ℕ)) × IsPath edges w v back
path_of_turned edges v w path is = path_of edges (comes_turned (turned edges) edges (turned_edge edges) (comes_by (turned edges) v w path is))

pub turned_path : (edges : List (ℕ × ℕ)) (v w : ℕ) (path : List (ℕ × ℕ)) → IsPath edges v w path → (back : List (ℕ × ℕ)) × IsPath (turned edges) w v back
turned_path edges v w path is = path_of (turned edges) (comes_turned edges (turned edges) (edge_turned edges) (comes_by edges v w path is))

-- the ends of turned edges, and their falling ranks
pub turned_ends : (nodes : ℕ) (edges : List (ℕ × ℕ)) → All (λ edge. (edge.0 < nodes) × (edge.1 < nodes)) edges → All (λ edge. (edge.0 < nodes) × (edge.1 < nodes)) (turned edges)
turned_ends nodes edges ends =
    All-map (λ (edge : ℕ × ℕ). (edge.0 < nodes) × (edge.1 < nodes)) (λ (edge : ℕ × ℕ). (edge.1, edge.0)) edges
    (All-weaker (λ (edge : ℕ × ℕ). (edge.0 < nodes) × (edge.1 < nodes)) (λ (edge : ℕ × ℕ). (edge.1 < nodes) × (edge.0 < nodes)) (λ edge below. (below.1, below.0)) edges ends)

abbrev pub fallen : List ℕ → List ℕ
fallen ranks = map (λ (rank : ℕ). 4294967295 - rank) ranks

fallen_at : (ranks : List ℕ) (n : ℕ) → n < length ranks → slice_index (fallen ranks) n ≡ 4294967295 - slice_index ranks n
fallen_at ranks n inside = get_or-map (λ (rank : ℕ). 4294967295 - rank) ranks n 0 0 inside

pub turned_rise : (nodes : ℕ) (edges : List (ℕ × ℕ)) (ranks : List ℕ) → length ranks ≡ nodes → ((n : ℕ) → slice_index ranks n ≤ 4294967295) →
    All (λ edge. (edge.0 < nodes) × (edge.1 < nodes)) edges → All (λ edge. slice_index ranks edge.0 < slice_index ranks edge.1) edges →
    All (λ edge. slice_index (fallen ranks) edge.0 < slice_index (fallen ranks) edge.1) (turned edges)
turned_rise nodes edges ranks long small ends rising =
    All-map (λ (edge : ℕ × ℕ). slice_index (fallen ranks) edge.0 < slice_index (fallen ranks) edge.1) (λ (edge : ℕ × ℕ). (edge.1, edge.0)) edges
    (λ k d inside.
    let up = rising k d inside in
    let below = ends k d inside in
    let at_tail = fallen_at ranks (get_or edges k d).0 (let b = below.0 in omega arith) in
    let at_head = fallen_at ranks (get_or edges k d).1 (let b = below.1 in omega arith) in
    let bound = small (get_or edges k d).1 in
    omega arith)
