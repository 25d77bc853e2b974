-- The costs of nodes, one edge more.
use Rattle.std.proofs.Common.{◌≡◌, ℕ, ◌+◌, ◌<◌, ◌≤◌, ⊎_elim, Bool, true, false, cond, eqb, not, ◌||◌, List, [], ◌∷◌, length, set, get_or, take, slice_index, arith, refl, ◌∙◌, ap, sym}
use Rattle.std.specs.List.{filter, sum_by}
use Rattle.std.proofs.lemmas.List.{get_or-set_same, get_or-set_other, length-set}
use Rattle.std.proofs.lemmas.List.Elements.{filter_more}
use Rattle.std.proofs.lemmas.List.Sums.{sum_by-append, sum_by_more_le}
use Rattle.std.proofs.lemmas.List.Filters.{sum_by-filter_both}
use Rattle.std.proofs.lemmas.Bool.{cases_eq, eq-eqb, ne_eqb}
use Rattle.sdf_level.specs.declared.single_rate.Edge.{Edge}
use Rattle.worker_mapping.specs.Costs.{cost_of, AreCosts}

abbrev size_of : Edge → ℕ
size_of e = e.size

abbrev touches : ℕ → Edge → Bool
touches n e = eqb e.tail n || eqb e.head n

size_if : (b : Bool) (e : Edge) → sum_by size_of (cond b (e ∷ []) []) ≡ cond b e.size 0
size_if true e = omega arith
size_if false e = refl

pub cost_of-more : (edges : List Edge) (i : ℕ) (d : Edge) (n : ℕ) → i < length edges →
    cost_of (take (i + 1) edges) n ≡ cost_of (take i edges) n + cond (touches n (get_or edges i d)) (get_or edges i d).size 0
cost_of-more edges i d n h =
    let more = ap (sum_by size_of) (filter_more (touches n) edges i d h) in
    let parts = sum_by-append size_of (filter (touches n) (take i edges)) (cond (touches n (get_or edges i d)) (get_or edges i d ∷ []) []) in
    let last = size_if (touches n (get_or edges i d)) (get_or edges i d) in
    omega arith

-- within the sum of all sizes
pub cost_of-within : (edges : List Edge) (n : ℕ) → cost_of edges n ≤ 1 + sum_by size_of edges
cost_of-within edges n =
    let parts = sum_by-filter_both (touches n) (λ e. not (touches n e)) (λ _. refl) size_of edges in
    omega arith

touched-tail : (t h : ℕ) → (eqb t t || eqb h t) ≡ true
touched-tail t h = rw (eq-eqb t t refl) refl

touched-head : (t h : ℕ) → (eqb t h || eqb h h) ≡ true
touched-head t h = rw (eq-eqb h h refl) (elim (eqb t h) as (λ b. (b || true) ≡ true) [ true ↦ refl | false ↦ refl ])

untouched : (t h n : ℕ) → (t ≡ n → ⊥) → (h ≡ n → ⊥) → (eqb t n || eqb h n) ≡ false
untouched t h n p q = rw (ne_eqb t n p, ne_eqb h n q) refl

-- what both writes leave at a node
pub after_writes : (costs : List ℕ) (t h s x y n : ℕ) → t < length costs → h < length costs → (t ≡ h → ⊥) →
    x ≡ slice_index costs t + s → y ≡ slice_index (set costs t x) h + s →
    slice_index (set (set costs t x) h y) n ≡ slice_index costs n + cond (eqb t n || eqb h n) s 0
after_writes costs t h s x y n inside inside' apart first second = ⊎_elim
    (λ (own : t ≡ n). after_tail own)
    (λ (away : t ≡ n → ⊥). ⊎_elim (λ (at : h ≡ n). after_head at) (λ (off : h ≡ n → ⊥). after_none away off) (cases_eq h n))
    (cases_eq t n) where
      after_tail : t ≡ n → slice_index (set (set costs t x) h y) n ≡ slice_index costs n + cond (eqb t n || eqb h n) s 0
      after_tail own = rw (← own) (
          let kept = get_or-set_other (set costs t x) h t y 0 apart in
          let written = get_or-set_same costs t x 0 inside in
          rw (touched-tail t h) (omega arith))

      after_head : h ≡ n → slice_index (set (set costs t x) h y) n ≡ slice_index costs n + cond (eqb t n || eqb h n) s 0
      after_head at = rw (← at) (
          let long = length-set costs t x in
          let written = get_or-set_same (set costs t x) h y 0 (omega arith) in
          let kept = get_or-set_other costs t h x 0 (λ e. apart (sym e)) in
          rw (touched-head t h) (omega arith))

      after_none : (t ≡ n → ⊥) → (h ≡ n → ⊥) → slice_index (set (set costs t x) h y) n ≡ slice_index costs n + cond (eqb t n || eqb h n) s 0
      after_none away off =
          let kept = get_or-set_other (set costs t x) h n y 0 (λ e. off (sym e)) in
          let kept' = get_or-set_other costs t n x 0 (λ e. away (sym e)) in
          rw (untouched t h n away off) (omega arith)

pub AreCosts-more : (nodes : ℕ) (edges : List Edge) (costs : List ℕ) (i : ℕ) (d : Edge) (x y : ℕ) → i < length edges →
    (get_or edges i d).tail < nodes → (get_or edges i d).head < nodes → ((get_or edges i d).tail ≡ (get_or edges i d).head → ⊥) →
    x ≡ slice_index costs (get_or edges i d).tail + (get_or edges i d).size →
    y ≡ slice_index (set costs (get_or edges i d).tail x) (get_or edges i d).head + (get_or edges i d).size →
    AreCosts nodes (take i edges) costs → AreCosts nodes (take (i + 1) edges) (set (set costs (get_or edges i d).tail x) (get_or edges i d).head y)
AreCosts-more nodes edges costs i d x y h tail head apart first second are =
    let e : Edge = get_or edges i d in
    let long = are.one_each in
    record {
      one_each = length-set (set costs e.tail x) e.head y ∙ length-set costs e.tail x ∙ are.one_each;
      each = λ n below.
          let written = after_writes costs e.tail e.head e.size x y n (omega arith) (omega arith) apart first second in
          let before = are.each n below in
          let after = cost_of-more edges i d n h in
          omega arith;
    }

-- what a node costs by the edges so far leaves room for one edge more
pub cost-fits : (nodes : ℕ) (edges : List Edge) (costs : List ℕ) (i : ℕ) (d : Edge) (n : ℕ) → i < length edges → n < nodes →
    AreCosts nodes (take i edges) costs → slice_index costs n + (get_or edges i d).size ≤ 1 + sum_by size_of edges
cost-fits nodes edges costs i d n h below are =
    let cost = are.each n below in
    let within = cost_of-within (take i edges) n in
    let more = sum_by_more_le size_of edges i d h in
    omega arith
