-- Paths of at least one edge, by their last edge.
use Rattle.std.proofs.Common.{◌≡◌, ℕ, ◌<◌, List, [], ◌∷◌, ◌++◌, length, refl, sym, ap, ◌∙◌, arith, All, Contains, get_or}
use Rattle.std.proofs.lemmas.List.{get_or_default, length-append}
use Rattle.std.proofs.lemmas.List.Elements.{All-head, All-tail, All-nil, All-push}
use Rattle.memory_exclusion.specs.Paths.{tail_of, head_of, Leads, IsPath}

-- the k-th edge leads from v to w
pub record IsEdge (edges : List (ℕ × ℕ)) (k v w : ℕ) : Type 0 where
  pub inside : k < length edges
  pub tail : tail_of edges k ≡ v
  pub head : head_of edges k ≡ w

pub data Comes (edges : List (ℕ × ℕ)) : ℕ → ℕ → Type 0 where
  first : {v w : ℕ} (k : ℕ) → IsEdge edges k v w → Comes edges v w
  next : {v u w : ℕ} (k : ℕ) → Comes edges v u → IsEdge edges k u w → Comes edges v w

contains_edge : (edges : List (ℕ × ℕ)) (k v w : ℕ) → IsEdge edges k v w → Contains edges (v, w)
contains_edge edges k v w edge =
    let here : get_or edges k (v, w) ≡ get_or edges k (0, 0) = get_or_default edges k (v, w) (0, 0) edge.inside in
    (k, edge.inside, here ∙ let e = edge.tail in let h = edge.head in pair_of (get_or edges k (0, 0)) v w e h)
  where
    pair_of : (pair : ℕ × ℕ) (v w : ℕ) → pair.0 ≡ v → pair.1 ≡ w → pair ≡ (v, w)
    pair_of pair v w e h = rw (← e, ← h) refl

edge_of_contained : (edges : List (ℕ × ℕ)) (edge : ℕ × ℕ) (v : ℕ) → edge.0 ≡ v → Contains edges edge → (k : ℕ) × IsEdge edges k v edge.1
edge_of_contained edges edge v tail c =
    let here : get_or edges c.0 (0, 0) ≡ edge = get_or_default edges c.0 (0, 0) edge c.1 ∙ c.2 in
    (c.0, record { inside = c.1; tail = ap (λ (pair : ℕ × ℕ). pair.0) here ∙ tail; head = ap (λ (pair : ℕ × ℕ). pair.1) here })

-- one edge more at the end of a list
Leads-push : (v u w : ℕ) (path : List (ℕ × ℕ)) → Leads v u path → Leads v w (path ++ (u, w) ∷ [])
Leads-push v u w [] leads = (sym leads, refl)
Leads-push v u w (edge ∷ path) leads = (leads.0, Leads-push edge.1 u w path leads.1)

module _ (edges : List (ℕ × ℕ)) where
  pub path_of : {v w : ℕ} → Comes edges v w → (path : List (ℕ × ℕ)) × IsPath edges v w path
  path_of {v} {w} (first k edge) = (
    (v, w) ∷ [],
    record {
      some = omega arith;
      of_graph = All-push (Contains edges) [] (v, w) (All-nil (Contains edges)) (contains_edge edges k v w edge);
      leads = (refl, refl);
    },
  )
  path_of {v} {w} (next {u = u} k before edge) =
      let part = path_of before in (
        part.0 ++ (u, w) ∷ [],
        record {
          some = simp length-append (omega arith);
          of_graph = All-push (Contains edges) part.0 (u, w) part.1.of_graph (contains_edge edges k u w edge);
          leads = Leads-push v u w part.0 part.1.leads;
        },
      )

  -- a list of edges goes on behind v
  goes_on : (v u w : ℕ) (path : List (ℕ × ℕ)) → Comes edges v u → All (Contains edges) path → Leads u w path → Comes edges v w
  goes_on v u w [] before all leads = rw (← leads) before
  goes_on v u w (edge ∷ path) before all leads =
      let here = edge_of_contained edges edge u leads.0 (All-head (Contains edges) edge path all) in
      goes_on v edge.1 w path (next here.0 before here.1) (All-tail (Contains edges) edge path all) leads.1

  pub comes_by : (v w : ℕ) (path : List (ℕ × ℕ)) → IsPath edges v w path → Comes edges v w
  comes_by v w [] path = let some = path.some in absurd (omega arith)
  comes_by v w (edge ∷ rest) path =
      let here = edge_of_contained edges edge v path.leads.0 (All-head (Contains edges) edge rest path.of_graph) in
      goes_on v edge.1 w rest (first here.0 here.1) (All-tail (Contains edges) edge rest path.of_graph) path.leads.1
