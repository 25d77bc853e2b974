-- The lists and counts of the nodes at edges, one edge more.
use Rattle.std.proofs.Common.{◌≡◌, ℕ, ◌+◌, ◌<◌, ◌≤◌, ⊎_elim, true, false, cond, eqb, List, [], ◌∷◌, ◌++◌, map, length, set, get_or, slice_index, slice_index_or, arith, refl, ap, sym, ◌∙◌}
use Rattle.std.specs.List.{filter}
use Rattle.std.proofs.lemmas.List.{length-set, length-append, length_push, length-map, get_or-set_same, get_or-set_other, append-nil, get_or-map, get_or_push, get_or_append_left}
use Rattle.std.proofs.lemmas.Bool.{cases_eq, cases_lt, eq-eqb, ne_eqb}
use Rattle.std.proofs.Common.{Vec}
use Rattle.worker_mapping.specs.Graph.{nodes_after, nodes_before}
use Rattle.sdf_level.specs.Lists.{lists_of}
use Rattle.worker_mapping.specs.Neighbours.{AreAfter, AreCounted}
use Rattle.worker_mapping.proofs.Edges.{nodes_after-append, nodes_before-append}

nodes_after-own : (e : ℕ × ℕ) → nodes_after (e ∷ []) e.0 ≡ e.1 ∷ []
nodes_after-own e = rw (eq-eqb e.0 e.0 refl)

nodes_after-other : (e : ℕ × ℕ) (n : ℕ) → (e.0 ≡ n → ⊥) → nodes_after (e ∷ []) n ≡ []
nodes_after-other e n h = rw (ne_eqb e.0 n h)

nodes_before-own : (e : ℕ × ℕ) → nodes_before (e ∷ []) e.1 ≡ e.0 ∷ []
nodes_before-own e = rw (eq-eqb e.1 e.1 refl)

nodes_before-other : (e : ℕ × ℕ) (n : ℕ) → (e.1 ≡ n → ⊥) → nodes_before (e ∷ []) n ≡ []
nodes_before-other e n h = rw (ne_eqb e.1 n h)

-- no node has more edges than there are
pub length-nodes_before : (edges : List (ℕ × ℕ)) (n : ℕ) → length (nodes_before edges n) ≤ length edges
length-nodes_before [] n = omega arith
length-nodes_before (e ∷ edges) n = elim (eqb e.1 n) as (λ b. length (map (λ (x : ℕ × ℕ). x.0) (cond b (e ∷ filter (λ (x : ℕ × ℕ). eqb x.1 n) edges) (filter (λ (x : ℕ × ℕ). eqb x.1 n) edges))) ≤ length (e ∷ edges)) [
  | true ↦ let h = length-nodes_before edges n in omega arith
  | false ↦ let h = length-nodes_before edges n in omega arith
]

module _ (nodes : ℕ) (edges : List (ℕ × ℕ)) (e : ℕ × ℕ) where
  pub AreCounted-more : (counts : List ℕ) → AreCounted nodes edges counts → e.1 < nodes → AreCounted nodes (edges ++ e ∷ []) (set counts e.1 (slice_index counts e.1 + 1))
  AreCounted-more counts h there = record {
    one_each = length-set counts e.1 (slice_index counts e.1 + 1) ∙ h.one_each;
    each = λ n below. ⊎_elim
        (λ (own : e.1 ≡ n).
        let long = h.one_each in
        let inside : e.1 < length counts = omega arith in
        let now = get_or-set_same counts e.1 (slice_index counts e.1 + 1) 0 inside in
        let had = h.each e.1 there in
        let grown = ap length (nodes_before-append edges (e ∷ []) e.1) ∙ length-append (nodes_before edges e.1) (nodes_before (e ∷ []) e.1) in
        let one = ap length (nodes_before-own e) in
        rw (← own) (omega arith))
        (λ (other : e.1 ≡ n → ⊥).
        let now = get_or-set_other counts e.1 n (slice_index counts e.1 + 1) 0 (λ s. other (sym s)) in
        let had = h.each n below in
        let grown = ap length (nodes_before-append edges (e ∷ []) n) ∙ length-append (nodes_before edges n) (nodes_before (e ∷ []) n) in
        let none = ap length (nodes_before-other e n other) in
        omega arith)
        (cases_eq e.1 n);
  }

  pub AreAfter-more : (lists : List (List ℕ)) → AreAfter nodes edges lists → e.0 < nodes → AreAfter nodes (edges ++ e ∷ []) (set lists e.0 (slice_index_or lists e.0 [] ++ e.1 ∷ []))
  AreAfter-more lists h there = record {
    one_each = length-set lists e.0 (slice_index_or lists e.0 [] ++ e.1 ∷ []) ∙ h.one_each;
    each = λ n below. ⊎_elim
        (λ (own : e.0 ≡ n).
        let long = h.one_each in
        let inside : e.0 < length lists = omega arith in
        rw (← own) (get_or-set_same lists e.0 (slice_index_or lists e.0 [] ++ e.1 ∷ []) [] inside
        ∙ ap (λ (xs : List ℕ). xs ++ e.1 ∷ []) (h.each e.0 there)
        ∙ ap (λ (xs : List ℕ). nodes_after edges e.0 ++ xs) (sym (nodes_after-own e))
        ∙ sym (nodes_after-append edges (e ∷ []) e.0)))
        (λ (other : e.0 ≡ n → ⊥).
        get_or-set_other lists e.0 n (slice_index_or lists e.0 [] ++ e.1 ∷ []) [] (λ s. other (sym s))
        ∙ h.each n below
        ∙ sym (append-nil (nodes_after edges n))
        ∙ ap (λ (xs : List ℕ). nodes_after edges n ++ xs) (sym (nodes_after-other e n other))
        ∙ sym (nodes_after-append edges (e ∷ []) n))
        (cases_eq e.0 n);
  }

pub AreCounted-small : (nodes : ℕ) (edges : List (ℕ × ℕ)) (counts : List ℕ) (n : ℕ) → AreCounted nodes edges counts → n < nodes → slice_index counts n ≤ length edges
AreCounted-small nodes edges counts n h below = let e = h.each n below in let s = length-nodes_before edges n in omega arith

-- the list that is read for a node
pub AreAfter-at : {A : Type 0} (nodes : ℕ) (edges : List (ℕ × ℕ)) (vectors : List (Vec ℕ A)) (n : ℕ) (x : Vec ℕ A) → AreAfter nodes edges (lists_of vectors) → n < nodes → x ≡ get_or vectors n x → x.items ≡ nodes_after edges n
AreAfter-at {A} nodes edges vectors n x h below read =
    let items = λ (v : Vec ℕ A). v.items in
    let inside : n < length vectors = (let long = h.one_each in let m = length-map vectors items in omega arith) in
    ap items read ∙ sym (get_or-map items vectors n x [] inside) ∙ h.each n below

-- one empty list more
pub AreAfter-push : (made : ℕ) (lists : List (List ℕ)) → AreAfter made [] lists → AreAfter (made + 1) [] (lists ++ [] ∷ [])
AreAfter-push made lists h = record {
  one_each = let e = h.one_each in let p = length_push lists [] in omega arith;
  each = λ n below. ⊎_elim
      (λ (old : n < made). let inside : n < length lists = (let e = h.one_each in omega arith) in get_or_append_left lists ([] ∷ []) [] n inside ∙ h.each n old)
      (λ (last : made ≤ n). get_or_push lists [] [] n (let e = h.one_each in omega arith))
      (cases_lt n made);
}
