-- What is claimed was ready, so live buffers are apart.
use Rattle.std.proofs.Common.{◌≡◌, ℕ, ◌+◌, ◌<◌, ◌≤◌, inl, inr, ⊎_elim, List, [], ◌∷◌, length, set, get_or, map, refl, sym, ◌∙◌, subst, arith, All, Contains}
use Rattle.std.specs.Prelude.{◌≢◌, slice_index}
use Rattle.std.proofs.lemmas.Bool.{cases_eq, cases_lt}
use Rattle.std.proofs.lemmas.List.{get_or-map, get_or_default}
use Rattle.std.proofs.lemmas.List.Elements.{All-head, All-tail}
use Rattle.sdf_level.specs.declared.single_rate.Edge.{Edge}
use Rattle.memory_exclusion.specs.Paths.{tail_of, head_of, Leads, IsPath, Excludes}
use Rattle.worker_mapping.specs.Costs.{pairs_of}
use Rattle.placement_checker.specs.Placed.{Valid, Overlap}
use Rattle.split_block.specs.Places.{Place, Apart}
use Rattle.one_job.specs.Marks.{Mark, IsFree, IsClaimed, IsFinished, phase}
use Rattle.one_job.specs.Places.{no_edge, edge_at, buffer_at}
use Rattle.one_job.specs.Live.{InOrder, IsLive, IsFull, IsLent}
use Rattle.one_job.proofs.Phases.{phase_elsewhere, finished_not_free, claimed_not_free, claimed_not_finished, claimed_not_failed, failed_not_free, free_not_finished}

abbrev pub sizes_of : List Edge → List ℕ
sizes_of edges = map (λ (e : Edge). e.size) edges

abbrev pub pair_of : Edge → ℕ × ℕ
pair_of e = (e.tail, e.head)

-- the edges have buffers, none of them empty, and those that exclude each other overlap in no cell
pub record IsLaid (edges : List Edge) (offsets : List ℕ) (height : ℕ) : Type 0 where
  pub valid : Valid (sizes_of edges) (Excludes (pairs_of edges)) offsets height
  pub some : (e : ℕ) → e < length edges → 1 ≤ (edge_at edges e).size

-- ---- edges as pairs

pub pair_at : (edges : List Edge) (e : ℕ) → e < length edges → get_or (pairs_of edges) e (0, 0) ≡ pair_of (edge_at edges e)
pair_at edges e inside = get_or-map pair_of edges e no_edge (0, 0) inside

pub size_at : (edges : List Edge) (e : ℕ) → e < length edges → slice_index (sizes_of edges) e ≡ (edge_at edges e).size
size_at edges e inside = get_or-map (λ (e : Edge). e.size) edges e no_edge 0 inside

length-pairs : (edges : List Edge) → length (pairs_of edges) ≡ length edges
length-pairs [] = refl
length-pairs (e ∷ edges) = omega (arith, length-pairs edges)

pub length-sizes : (edges : List Edge) → length (sizes_of edges) ≡ length edges
length-sizes [] = refl
length-sizes (e ∷ edges) = omega (arith, length-sizes edges)

-- ---- paths

module _ (edges : List Edge) (marks : List Mark) (order : InOrder edges marks) where
  one_before : (pair : ℕ × ℕ) → Contains (pairs_of edges) pair → phase marks pair.1 ≢ IsFree → phase marks pair.0 ≡ IsFinished
  one_before pair (k, inside, is) claimed =
      let k_in : k < length edges = subst (λ n. k < n) (length-pairs edges) inside in
      let same : get_or (pairs_of edges) k pair ≡ get_or (pairs_of edges) k (0, 0) = get_or_default (pairs_of edges) k pair (0, 0) inside in
      let here : pair_of (edge_at edges k) ≡ pair = sym (pair_at edges k k_in) ∙ (sym same ∙ is) in
      subst (λ (q : ℕ × ℕ). phase marks q.0 ≡ IsFinished) here (order k k_in (subst (λ (q : ℕ × ℕ). phase marks q.1 ≢ IsFree) (sym here) claimed))

  -- where a path of at least one edge leads to a claimed node, its first node is finished
  along : (v w : ℕ) (pair : ℕ × ℕ) (path : List (ℕ × ℕ)) → All (Contains (pairs_of edges)) (pair ∷ path) → Leads v w (pair ∷ path) → phase marks w ≢ IsFree → phase marks v ≡ IsFinished
  along v w pair [] all leads claimed =
      subst (λ n. phase marks n ≡ IsFinished) leads.0 (one_before pair (All-head (Contains (pairs_of edges)) pair [] all) (subst (λ n. phase marks n ≢ IsFree) (sym leads.1) claimed))
  along v w pair (next ∷ path) all leads claimed =
      let last = along pair.1 w next path (All-tail (Contains (pairs_of edges)) pair (next ∷ path) all) leads.1 claimed in
      subst (λ n. phase marks n ≡ IsFinished) leads.0 (one_before pair (All-head (Contains (pairs_of edges)) pair (next ∷ path) all) (finished_not_free (phase marks pair.1) last))

  pub finished_before : (v w : ℕ) (path : List (ℕ × ℕ)) → IsPath (pairs_of edges) v w path → phase marks w ≢ IsFree → phase marks v ≡ IsFinished
  finished_before v w [] is claimed = let none = is.some in absurd (omega arith)
  finished_before v w (pair ∷ path) is claimed = along v w pair path is.of_graph is.leads claimed

  -- two live buffers exclude each other
  live_exclude : (e f : ℕ) → e < length edges → f < length edges → IsLive edges marks e → IsLive edges marks f → Excludes (pairs_of edges) e f
  live_exclude e f e_in f_in one other = record {
    forth = λ path is. one.unfinished (subst (λ (q : ℕ × ℕ). phase marks q.1 ≡ IsFinished) (pair_at edges e e_in)
        (finished_before (head_of (pairs_of edges) e) (tail_of (pairs_of edges) f) path is (subst (λ (q : ℕ × ℕ). phase marks q.0 ≢ IsFree) (sym (pair_at edges f f_in)) other.claimed)));
    back = λ path is. other.unfinished (subst (λ (q : ℕ × ℕ). phase marks q.1 ≡ IsFinished) (pair_at edges f f_in)
        (finished_before (head_of (pairs_of edges) f) (tail_of (pairs_of edges) e) path is (subst (λ (q : ℕ × ℕ). phase marks q.0 ≢ IsFree) (sym (pair_at edges e e_in)) one.claimed)));
  }

  -- what is lent is live
  pub lent_live : (e : ℕ) → e < length edges → IsLent edges marks e → IsLive edges marks e
  lent_live e inside lent =
      let t = phase marks (edge_at edges e).tail in
      let h = phase marks (edge_at edges e).head in
      ⊎_elim
      (λ (tail : t ≡ IsClaimed). record {
        claimed = claimed_not_free t tail;
        unfinished = λ done. claimed_not_finished t tail (order e inside (finished_not_free h done));
        unfailed = λ failed. claimed_not_finished t tail (order e inside (failed_not_free h failed));
      })
      (λ (head : h ≡ IsClaimed). record {
        claimed = finished_not_free t (order e inside (claimed_not_free h head));
        unfinished = claimed_not_finished h head;
        unfailed = claimed_not_failed h head;
      })
      lent

  pub full_live : (e : ℕ) → IsFull edges marks e → IsLive edges marks e
  full_live e full = record { claimed = finished_not_free (phase marks (edge_at edges e).tail) full.given; unfinished = full.unfinished; unfailed = full.unfailed }

-- ---- places

-- two ranges with cells that have none in common are apart
pub apart_of : (p q : Place) → (Overlap p.start p.len q.start q.len → ⊥) → 1 ≤ p.len → 1 ≤ q.len → Apart p q
apart_of p q none p_some q_some = ⊎_elim
    (λ (before : p.start < q.start + q.len). ⊎_elim
    (λ (over : q.start < p.start + p.len). absurd (⊎_elim
    (λ (low : p.start < q.start). none (record { cell = q.start; in_one = (omega arith, over); in_other = (omega arith, omega arith) }))
    (λ (high : q.start ≤ p.start). none (record { cell = p.start; in_one = (omega arith, omega arith); in_other = (high, before) }))
    (cases_lt p.start q.start)))
    (λ (ends : p.start + p.len ≤ q.start). inl ends)
    (cases_lt q.start (p.start + p.len)))
    (λ (after : q.start + q.len ≤ p.start). inr after)
    (cases_lt p.start (q.start + q.len))

pub turned : (p q : Place) → Apart p q → Apart q p
turned p q (inl h) = inr h
turned p q (inr h) = inl h

module _ (edges : List Edge) (offsets : List ℕ) (height : ℕ) (laid : IsLaid edges offsets height) where
  pub buffer_within : (e : ℕ) → e < length edges → (buffer_at edges offsets e).start + (buffer_at edges offsets e).len ≤ height
  buffer_within e inside =
      subst (λ n. slice_index offsets e + n ≤ height) (size_at edges e inside) (laid.valid.within e (subst (λ n. e < n) (sym (length-sizes edges)) inside))

  -- the one of lesser number first
  ordered_apart : (marks : List Mark) → InOrder edges marks → (e f : ℕ) → e < f → f < length edges → IsLive edges marks e → IsLive edges marks f → Apart (buffer_at edges offsets e) (buffer_at edges offsets f)
  ordered_apart marks order e f below f_in one other =
      let e_in : e < length edges = omega arith in
      apart_of (buffer_at edges offsets e) (buffer_at edges offsets f)
      (λ overlap. laid.valid.apart e f below (subst (λ n. f < n) (sym (length-sizes edges)) f_in) (live_exclude edges marks order e f e_in f_in one other)
      (subst (λ n. Overlap (slice_index offsets e) n (slice_index offsets f) (slice_index (sizes_of edges) f)) (sym (size_at edges e e_in))
      (subst (λ n. Overlap (slice_index offsets e) (edge_at edges e).size (slice_index offsets f) n) (sym (size_at edges f f_in)) overlap)))
      (laid.some e e_in) (laid.some f f_in)

  pub live_apart : (marks : List Mark) → InOrder edges marks → (e f : ℕ) → e < length edges → f < length edges → e ≢ f → IsLive edges marks e → IsLive edges marks f → Apart (buffer_at edges offsets e) (buffer_at edges offsets f)
  live_apart marks order e f e_in f_in differ one other = ⊎_elim
      (λ (below : e < f). ordered_apart marks order e f below f_in one other)
      (λ (rest : f ≤ e). let above : f < e = ⊎_elim (λ (lt : f < e). lt) (λ (ge : e ≤ f). absurd (differ (omega arith))) (cases_lt f e) in
      turned (buffer_at edges offsets f) (buffer_at edges offsets e) (ordered_apart marks order f e above e_in other one))
      (cases_lt e f)

-- ---- claims and finishes keep the order

-- a node that may be claimed: it is there and free, and all before it are finished
pub record CanClaim (edges : List Edge) (marks : List Mark) (node : ℕ) : Type 0 where
  pub there : node < length marks
  pub free : phase marks node ≡ IsFree
  pub before : (e : ℕ) → e < length edges → (edge_at edges e).head ≡ node → phase marks (edge_at edges e).tail ≡ IsFinished

module _ (edges : List Edge) (marks : List Mark) (order : InOrder edges marks) (node : ℕ) (mark : Mark) where
  -- a finished node is another one than the node that is marked now
  still_finished : phase marks node ≢ IsFinished → (v : ℕ) → phase marks v ≡ IsFinished → phase (set marks node mark) v ≡ IsFinished
  still_finished not v is = phase_elsewhere marks node v mark (λ same. not (subst (λ n. phase marks n ≡ IsFinished) same is)) ∙ is

  pub claim_keeps_order : CanClaim edges marks node → InOrder edges (set marks node mark)
  claim_keeps_order can = λ e inside claimed. still_finished (free_not_finished (phase marks node) can.free) (edge_at edges e).tail (⊎_elim
      (λ (here : (edge_at edges e).head ≡ node). can.before e inside here)
      (λ (there : (edge_at edges e).head ≡ node → ⊥). order e inside (λ free. claimed (phase_elsewhere marks node (edge_at edges e).head mark there ∙ free)))
      (cases_eq (edge_at edges e).head node))

  pub finish_keeps_order : phase marks node ≡ IsClaimed → InOrder edges (set marks node mark)
  finish_keeps_order running = λ e inside claimed. still_finished (claimed_not_finished (phase marks node) running) (edge_at edges e).tail (order e inside (⊎_elim
      (λ (here : (edge_at edges e).head ≡ node). subst (λ n. phase marks n ≢ IsFree) (sym here) (claimed_not_free (phase marks node) running))
      (λ (there : (edge_at edges e).head ≡ node → ⊥). λ free. claimed (phase_elsewhere marks node (edge_at edges e).head mark there ∙ free))
      (cases_eq (edge_at edges e).head node)))
