-- What is said of the edges of one node is said of all edges.
use Rattle.std.proofs.Common.{◌≡◌, ℕ, zero, suc, ◌+◌, ◌==◌, ◌&&◌, Bool, true, false, List, [], ◌∷◌, ◌++◌, map, refl, ◌∙◌, arith, if◌then◌else◌}
use Rattle.std.specs.Prelude.{cond, filter}
use Rattle.job_flow.specs.Frames.{arriving, arriving_below, edges_into, sizes_out}
use Rattle.sdf_level.specs.declared.single_rate.Edge.{Edge}
use Rattle.audit_job.specs.Waiting.{between}

-- ---- the edges into a node

module _ (n : ℕ) where
  abbrev leads_here : Edge → Bool
  leads_here e = e.head == n

  abbrev here : List Edge → List Edge
  here edges = filter leads_here edges

  module _ {T : Type 0} (on : Edge → List T) (port : ℕ) where
    arrives : (e : Edge) (edges : List Edge) → arriving (here edges) (map on (here edges)) n port ≡ arriving edges (map on edges) n port → (b : Bool) → leads_here e ≡ b →
        arriving (cond b (e ∷ here edges) (here edges)) (map on (cond b (e ∷ here edges) (here edges))) n port ≡ (if b && (e.head_port == port) then on e else []) ++ arriving edges (map on edges) n port
    arrives e edges again true is = (λ i. (if is i && (e.head_port == port) then on e else []) ++ again i)
    arrives e edges again false is = again

    pub same_arriving : (edges : List Edge) → arriving (here edges) (map on (here edges)) n port ≡ arriving edges (map on edges) n port
    same_arriving [] = refl
    same_arriving (e ∷ edges) = arrives e edges (same_arriving edges) (leads_here e) refl

  pub same_arriving_below : {T : Type 0} (on : Edge → List T) (edges : List Edge) (ports : ℕ) → arriving_below (here edges) (map on (here edges)) n ports ≡ arriving_below edges (map on edges) n ports
  same_arriving_below on edges zero = refl
  same_arriving_below on edges (suc port) = (λ i. same_arriving_below on edges port i ++ same_arriving on port edges i ∷ [])

  counts : (e : Edge) (edges : List Edge) → edges_into (here edges) n ≡ edges_into edges n → (b : Bool) → leads_here e ≡ b → edges_into (cond b (e ∷ here edges) (here edges)) n ≡ (if b then 1 else 0) + edges_into edges n
  counts e edges again true is = (λ i. (if is i then 1 else 0) + again i)
  counts e edges again false is = omega arith

  pub same_into : (edges : List Edge) → edges_into (here edges) n ≡ edges_into edges n
  same_into [] = refl
  same_into (e ∷ edges) = counts e edges (same_into edges) (leads_here e) refl

-- ---- the edges out of a node

module _ (t : ℕ) where
  abbrev leads_away : Edge → Bool
  leads_away e = e.tail == t

  abbrev away : List Edge → List Edge
  away edges = filter leads_away edges

  sized : (e : Edge) (edges : List Edge) → sizes_out (away edges) t ≡ sizes_out edges t → (b : Bool) → leads_away e ≡ b → sizes_out (cond b (e ∷ away edges) (away edges)) t ≡ (if b then e.size ∷ [] else []) ++ sizes_out edges t
  sized e edges again true is = (λ i. (if is i then e.size ∷ [] else []) ++ again i)
  sized e edges again false is = again

  pub same_sizes : (edges : List Edge) → sizes_out (away edges) t ≡ sizes_out edges t
  same_sizes [] = refl
  same_sizes (e ∷ edges) = sized e edges (same_sizes edges) (leads_away e) refl

  joined : (e : Edge) (edges : List Edge) (n : ℕ) → between (away edges) t n ≡ between edges t n → (b : Bool) → leads_away e ≡ b → between (cond b (e ∷ away edges) (away edges)) t n ≡ (if (e.head == n) && b then 1 else 0) + between edges t n
  joined e edges n again true is = (λ i. (if (e.head == n) && is i then 1 else 0) + again i)
  joined e edges n again false is = again ∙ none (e.head == n) (between edges t n)
    where
      none : (a : Bool) (k : ℕ) → k ≡ (if a && false then 1 else 0) + k
      none true k = omega arith
      none false k = omega arith

  pub same_between : (edges : List Edge) (n : ℕ) → between (away edges) t n ≡ between edges t n
  same_between [] n = refl
  same_between (e ∷ edges) n = joined e edges n (same_between edges n) (leads_away e) refl
