-- Which nodes may be claimed, after a claim and after a finish.
use Rattle.std.proofs.Common.{◌≡◌, ℕ, zero, suc, ℤ, ◌+◌, ◌-◌, ◌<◌, ◌≤◌, inl, inr, ⊎_elim, Bool, true, false, List, [], ◌∷◌, length, set, get_or, replicate, map, refl, sym, ap, ap₂, ◌∙◌, subst, arith}
use Rattle.std.specs.Prelude.{◌≢◌, Option, Some, None, slice_index}
use Rattle.std.proofs.lemmas.Bool.{cases_eq, cases_lt, false≢true}
use Rattle.std.proofs.lemmas.List.{length-set, get_or_past}
use Rattle.std.proofs.lemmas.List.Elements.{recursion_from_All, All-from_get_or}
use Rattle.sdf_level.specs.declared.single_rate.Edge.{Edge}
use Rattle.ready_heap.specs.Heaps.{Holds}
use Rattle.ready_heap.specs.Groups.{RankingView}
use Rattle.kernel_gate.specs.Value.{Places}
use Rattle.job_flow.specs.Events.{IsDone, IsReady, IsFinished as IsEnded, IsQuiet}
use Rattle.one_job.specs.Marks.{Mark, Free, Claimed, mark_at, Phase, IsFree, IsClaimed, IsFinished, IsFailed, phase, phase_of, values, value_of}
use Rattle.one_job.specs.Places.{no_edge, edge_at}
use Rattle.one_job.specs.Live.{InOrder}
use Rattle.one_job.specs.Ports.{EachLeaves}
use Rattle.job_compiler.specs.Ends.{head_of, AreEndCounts}
use Rattle.one_job.specs.View.{JobView, IsEnabled, graph_of}
use Rattle.job_compiler.specs.Ranked.{IsRankingOf}
use Rattle.one_job.specs.Pick.{is_child}
use Rattle.one_job.specs.Ready.{bit, side, put, none_ready, is_in, is_unfinished, is_pending, marked_into, waits_for, is_claimed, claims, KeepsReady, AreStarted, heads_in, heads_at, Releases, CanRelease}
use Rattle.one_job.specs.declared.ready.ReadyNodes.{ReadyNodes}
use Rattle.one_job.proofs.Phases.{inside_of, phase_there, phase_elsewhere, claimed_not_free, claimed_not_finished, free_not_finished, free_not_claimed}
use Rattle.one_job.proofs.Order.{CanClaim}
use Rattle.one_job.proofs.Lending.{In, NotIn, NotIn-cases, EachEdge, EachEdge-weaker}
use Rattle.one_job.proofs.Claiming.{Leaves, leaves_each, leaves_fresh, In-leaves}
use Rattle.one_job.proofs.Wires.{can_claim}
use Rattle.one_job.proofs.JobEnds.{phase_done}
use Rattle.one_job.proofs.Sides.{ranked_still, put_here, put_others, put_ranked, put_sorted, none_ranked}
use Rattle.one_job.proofs.Pending.{marked_same, marked_zero, marked_none, marked_without, marked_all, without, without_in, without_out}

-- ---- a node may be claimed

free_mark : (m : Mark) → phase_of m ≡ IsFree → m ≡ Free
free_mark Free is = refl
free_mark (Claimed places) is = absurd (cc)
free_mark (Rattle.one_job.specs.Marks.Finished outs) is = absurd (cc)
free_mark (Rattle.one_job.specs.Marks.Failed code) is = absurd (cc)

pub enabled_of : (j : JobView) (n : ℕ) → length j.marks ≡ length j.compilation.graph.nodes → CanClaim j.compilation.graph.edges j.marks n → IsEnabled j n
enabled_of j n one_each can = record {
  ready = record {
    there = subst (λ k. n < k) one_each can.there;
    before = recursion_from_All (λ (e : Edge). e.head ≡ n → IsDone (values j.marks e.tail)) j.compilation.graph.edges
        (All-from_get_or (λ (e : Edge). e.head ≡ n → IsDone (values j.marks e.tail)) j.compilation.graph.edges no_edge (λ e inside here.
        phase_done (mark_at j.marks (edge_at j.compilation.graph.edges e).tail) (can.before e inside here)));
  };
  unclaimed = free_mark (mark_at j.marks n) can.free;
}

shut_phase : (p : Phase) → is_unfinished p ≡ false → p ≡ IsFinished
shut_phase IsFree is = absurd (false≢true (sym is))
shut_phase IsClaimed is = absurd (false≢true (sym is))
shut_phase IsFinished is = refl
shut_phase IsFailed is = absurd (false≢true (sym is))

phase_shut : (p : Phase) → p ≡ IsFinished → is_unfinished p ≡ false
phase_shut p is = ap is_unfinished is

open_phase : (p : Phase) → p ≢ IsFinished → is_unfinished p ≡ true
open_phase IsFree not_done = refl
open_phase IsClaimed not_done = refl
open_phase IsFinished not_done = absurd (not_done refl)
open_phase IsFailed not_done = refl

phase_free : (p : Phase) → ((p ≢ IsFree) → ⊥) → p ≡ IsFree
phase_free IsFree never = refl
phase_free IsClaimed never = absurd (never (claimed_not_free IsClaimed refl))
phase_free IsFinished never = absurd (never (λ is. absurd (cc)))
phase_free IsFailed never = absurd (never (λ is. absurd (cc)))

-- a free node that waits for no edge may be claimed
pub waits_none : (edges : List Edge) (marks : List Mark) (n : ℕ) → CanClaim edges marks n → waits_for edges marks n ≡ 0
waits_none edges marks n can = marked_zero edges (is_pending edges marks) n (length edges) (λ e inside here. phase_shut (phase marks (edge_at edges e).tail) (can.before e inside here))

pub none_waits : (edges : List Edge) (marks : List Mark) (n : ℕ) → n < length marks → phase marks n ≡ IsFree → waits_for edges marks n ≡ 0 → CanClaim edges marks n
none_waits edges marks n inside free none = record {
  there = inside;
  free = free;
  before = λ e e_in here. shut_phase (phase marks (edge_at edges e).tail) (marked_none edges (is_pending edges marks) n (length edges) none e e_in here);
}

-- ---- claimed nodes

module _ (marks : List Mark) (n : ℕ) (m : Mark) (there : n < length marks) where
  abbrev later : List Mark
  later = set marks n m

  claims_above : (k : ℕ) → k ≤ n → claims later k ≡ claims marks k
  claims_above zero above = refl
  claims_above (suc k) above = ap₂ (λ p c. bit (is_claimed p) + c) (phase_elsewhere marks n k m (λ same. let bad : ⊥ = omega arith in bad)) (claims_above k (omega arith))

  claims_at : (k : ℕ) → n < k → claims later k + bit (is_claimed (phase marks n)) ≡ claims marks k + bit (is_claimed (phase_of m))
  claims_at zero below = absurd (let bad : ⊥ = omega arith in bad)
  claims_at (suc k) below = ⊎_elim
      (λ (last : n ≡ k).
      let rest = claims_above k (omega arith) in
      let now : bit (is_claimed (phase later k)) ≡ bit (is_claimed (phase_of m)) = ap (λ p. bit (is_claimed p)) (subst (λ q. phase later q ≡ phase_of m) last (phase_there marks n m there)) in
      let was : bit (is_claimed (phase marks k)) ≡ bit (is_claimed (phase marks n)) = ap (λ q. bit (is_claimed (phase marks q))) (sym last) in
      omega arith)
      (λ (not_last : n ≡ k → ⊥).
      let before : n < k = ⊎_elim (λ (less : n < k). less) (λ (up : k ≤ n). absurd (not_last (omega arith))) (cases_lt n k) in
      let rest = claims_at k before in
      let same : bit (is_claimed (phase later k)) ≡ bit (is_claimed (phase marks k)) = ap (λ p. bit (is_claimed p)) (phase_elsewhere marks n k m (λ is. not_last (sym is))) in
      omega arith)
      (cases_eq n k)

  pub claims_now : claims later (length later) + bit (is_claimed (phase marks n)) ≡ claims marks (length marks) + bit (is_claimed (phase_of m))
  claims_now = ap (λ k. claims later k + bit (is_claimed (phase marks n))) (length-set marks n m) ∙ claims_at (length marks) there

claimed_bit : (p : Phase) → bit (is_claimed p) ≡ 0 → p ≢ IsClaimed
claimed_bit p none is = let one : bit (is_claimed p) ≡ 1 = ap (λ q. bit (is_claimed q)) is in let bad : ⊥ = omega arith in bad

bit_claimed : (p : Phase) → p ≢ IsClaimed → bit (is_claimed p) ≡ 0
bit_claimed IsFree none = refl
bit_claimed IsClaimed none = absurd (none refl)
bit_claimed IsFinished none = refl
bit_claimed IsFailed none = refl

pub claims_few : (marks : List Mark) (k : ℕ) → claims marks k ≤ k
claims_few marks zero = omega arith
claims_few marks (suc k) = let rest = claims_few marks k in let last = bit_one (is_claimed (phase marks k)) in omega arith
  where
    bit_one : (b : Bool) → bit b ≤ 1
    bit_one true = omega arith
    bit_one false = omega arith

pub claims_none : (marks : List Mark) (k : ℕ) → claims marks k ≡ 0 → (n : ℕ) → n < k → phase marks n ≢ IsClaimed
claims_none marks zero none n below = absurd (let bad : ⊥ = omega arith in bad)
claims_none marks (suc k) none n below = ⊎_elim
    (λ (before : n < k). claims_none marks k (omega arith) n before)
    (λ (up : k ≤ n). let last : k ≡ n = omega arith in subst (λ q. phase marks q ≢ IsClaimed) last (claimed_bit (phase marks k) (omega arith)))
    (cases_lt n k)

pub none_claims : (marks : List Mark) (k : ℕ) → ((n : ℕ) → phase marks n ≢ IsClaimed) → claims marks k ≡ 0
none_claims marks zero none = refl
none_claims marks (suc k) none = let rest = none_claims marks k none in let last = bit_claimed (phase marks k) (none k) in omega arith

-- ---- a mark that finishes no node

module _ (edges : List Edge) (marks : List Mark) (n : ℕ) (m : Mark) (there : n < length marks) (was_open : phase marks n ≢ IsFinished) (is_open : phase_of m ≢ IsFinished) where
  abbrev marked : List Mark
  marked = set marks n m

  pending_same : (e : ℕ) → is_pending edges marked e ≡ is_pending edges marks e
  pending_same e = ⊎_elim
      (λ (here : (edge_at edges e).tail ≡ n).
      ap is_unfinished (ap (phase marked) here ∙ phase_there marks n m there)
      ∙ (open_phase (phase_of m) is_open ∙ sym (ap is_unfinished (ap (phase marks) here) ∙ open_phase (phase marks n) was_open)))
      (λ (elsewhere : (edge_at edges e).tail ≡ n → ⊥). ap is_unfinished (phase_elsewhere marks n (edge_at edges e).tail m elsewhere))
      (cases_eq (edge_at edges e).tail n)

  pub waits_same : (k : ℕ) → waits_for edges marked k ≡ waits_for edges marks k
  waits_same k = marked_same edges (is_pending edges marked) (is_pending edges marks) k (length edges) (λ e below. pending_same e)

-- ---- a claim

module _ (j : JobView) (one_each : length j.marks ≡ length j.compilation.graph.nodes) (waiting : List ℕ) (claimed : ℕ) (ready : ReadyNodes) (keeps : KeepsReady j waiting claimed ready) (n : ℕ) (enabled : IsEnabled j n) (places : Places) where
  abbrev edges : List Edge
  edges = j.compilation.graph.edges

  abbrev after : JobView
  after = record j { marks = set j.marks n (Claimed places) }

  can : CanClaim edges j.marks n
  can = can_claim j n one_each enabled

  same_waits : (k : ℕ) → waits_for edges after.marks k ≡ waits_for edges j.marks k
  same_waits = waits_same edges j.marks n (Claimed places) can.there (free_not_finished (phase j.marks n) can.free) (claimed_not_finished IsClaimed refl)

  after_each : length after.marks ≡ length j.compilation.graph.nodes
  after_each = length-set j.marks n (Claimed places) ∙ one_each

  claimed_now : phase after.marks n ≡ IsClaimed
  claimed_now = phase_there j.marks n (Claimed places) can.there

  n_inside : n < length (side ready (is_child j n)).held
  n_inside = let w = (keeps.ranked (is_child j n)).wide in let t = enabled.ready.there in omega arith

  abbrev without_node : ReadyNodes
  without_node = put ready (is_child j n) n false

  pub claim_ready : KeepsReady after waiting (claimed + 1) without_node
  claim_ready = record {
    ranked = λ b. ranked_still j.compilation.mapping (length j.compilation.graph.nodes) (side ready b) (side without_node b) (keeps.ranked b) (put_ranked ready n false (is_child j n) b);
    sorted = put_sorted ready n false (is_child j) keeps.sorted;
    long = keeps.long;
    counted = λ k inside. keeps.counted k inside ∙ sym (same_waits k);
    exact = λ k. (
      λ holds.
          let differs : k ≢ n = λ same. false≢true (sym (put_here ready n false (is_child j n) n_inside) ∙ subst (λ q. is_in (is_child j) without_node q ≡ true) same holds) in
          let was = can_claim j k one_each ((keeps.exact k).0 (sym (put_others ready n false (is_child j n) (is_child j k) k differs) ∙ holds)) in
          enabled_of after k after_each (none_waits edges after.marks k (let l = length-set j.marks n (Claimed places) in let t = was.there in omega arith)
          (phase_elsewhere j.marks n k (Claimed places) differs ∙ was.free) (same_waits k ∙ waits_none edges j.marks k was)),
      λ now.
          let is = can_claim after k after_each now in
          let differs : k ≢ n = λ same. free_not_claimed (phase after.marks n) (subst (λ q. phase after.marks q ≡ IsFree) same is.free) claimed_now in
          put_others ready n false (is_child j n) (is_child j k) k differs
          ∙ (keeps.exact k).1 (enabled_of j k one_each (none_waits edges j.marks k (let l = length-set j.marks n (Claimed places) in let t = is.there in omega arith)
          (sym (phase_elsewhere j.marks n k (Claimed places) differs) ∙ is.free) (sym (same_waits k) ∙ waits_none edges after.marks k is))),
    );
    claims_are =
        let step = claims_now j.marks n (Claimed places) can.there in
        let none : bit (is_claimed (phase j.marks n)) ≡ 0 = ap (λ p. bit (is_claimed p)) can.free in
        let was = keeps.claims_are in
        omega arith;
  }

-- ---- a finish

-- the edges out of a claimed node, and its ports
pub record CanFinish (edges : List Edge) (marks : List Mark) (n : ℕ) (row : List (Option ℕ)) : Type 0 where
  pub order : InOrder edges marks
  pub claimed : phase marks n ≡ IsClaimed
  pub leaves : EachLeaves edges n 0 row
  pub all : (e : ℕ) → e < length edges → (edge_at edges e).tail ≡ n → In e row

module _ (edges : List Edge) (marks : List Mark) (n : ℕ) (row : List (Option ℕ)) (can : CanFinish edges marks n row) where
  there : n < length marks
  there = inside_of marks n (claimed_not_free (phase marks n) can.claimed)

  -- the nodes after it are free
  after_free : (e : ℕ) → e < length edges → (edge_at edges e).tail ≡ n → phase marks (edge_at edges e).head ≡ IsFree
  after_free e inside here = phase_free (phase marks (edge_at edges e).head) (λ not_free.
      claimed_not_finished (phase marks n) can.claimed (subst (λ q. phase marks q ≡ IsFinished) here (can.order e inside not_free)))

  heads_found : (ports : List (Option ℕ)) (k : ℕ) → 0 < heads_in edges ports k → (e : ℕ) × In e ports × ((edge_at edges e).head ≡ k)
  heads_found [] k some = absurd (let bad : ⊥ = omega arith in bad)
  heads_found (None ∷ ports) k some =
      let found = heads_found ports k (omega arith) in (found.0, found.1, found.2)
  heads_found (Some e ∷ ports) k some = ⊎_elim
      (λ (here : (edge_at edges e).head ≡ k). (e, inl refl, here))
      (λ (differs : (edge_at edges e).head ≡ k → ⊥).
      let none : heads_at edges (Some e) k ≡ 0 = ap bit (Rattle.std.proofs.lemmas.Bool.ne_eqb (edge_at edges e).head k differs) in
      let found = heads_found ports k (omega arith) in (found.0, inr found.1, found.2))
      (cases_eq (edge_at edges e).head k)

  pub heads_free : (k : ℕ) → 0 < heads_in edges row k → phase marks k ≡ IsFree
  heads_free k some =
      let found = heads_found row k some in
      let leaves = In-leaves edges n 0 found.0 row can.leaves found.1 in
      subst (λ q. phase marks q ≡ IsFree) found.2 (after_free found.0 leaves.0 leaves.1)

  all_pending : EachEdge (λ e. (e < length edges) × (is_pending edges marks e ≡ true)) row
  all_pending = EachEdge-weaker (Leaves edges n) (λ e. (e < length edges) × (is_pending edges marks e ≡ true))
      (λ e leaves. (leaves.0, ap is_unfinished (ap (phase marks) leaves.1 ∙ can.claimed))) row (leaves_each edges n 0 row can.leaves)

  pub waits_heads : (k : ℕ) → waits_for edges marks k ≡ heads_in edges row k + marked_into edges (without (is_pending edges marks) row) k (length edges)
  waits_heads k = marked_without edges (is_pending edges marks) k (length edges) row (leaves_fresh edges n 0 row can.leaves) all_pending

  module _ (m : Mark) (done : phase_of m ≡ IsFinished) where
    abbrev ended : List Mark
    ended = set marks n m

    pending_left : (e : ℕ) → e < length edges → without (is_pending edges marks) row e ≡ is_pending edges ended e
    pending_left e inside = ⊎_elim
        (λ (here : (edge_at edges e).tail ≡ n).
        without_in (is_pending edges marks) e row (can.all e inside here)
        ∙ sym (ap is_unfinished (ap (phase ended) here ∙ (phase_there marks n m there ∙ done))))
        (λ (elsewhere : (edge_at edges e).tail ≡ n → ⊥).
        ⊎_elim
        (λ (out : NotIn e row). without_out (is_pending edges marks) e row out)
        (λ (is : In e row). absurd (elsewhere ((In-leaves edges n 0 e row can.leaves is).1)))
        (NotIn-cases e row)
        ∙ sym (ap is_unfinished (phase_elsewhere marks n (edge_at edges e).tail m elsewhere)))
        (cases_eq (edge_at edges e).tail n)

    pub waits_ended : (k : ℕ) → waits_for edges ended k + heads_in edges row k ≡ waits_for edges marks k
    waits_ended k =
        let split = waits_heads k in
        let same = marked_same edges (without (is_pending edges marks) row) (is_pending edges ended) k (length edges) (pending_left) in
        omega arith

-- what is released by a node that is marked so: the nodes after it where it is finished, none where it failed
pub record IsReleased (edges : List Edge) (marks : List Mark) (n : ℕ) (m : Mark) (ports : List (Option ℕ)) : Type 0 where
  pub claimed : phase marks n ≡ IsClaimed
  pub ended : phase_of m ≢ IsFree
  pub unclaimed : phase_of m ≢ IsClaimed
  pub waits : (k : ℕ) → waits_for edges (set marks n m) k + heads_in edges ports k ≡ waits_for edges marks k
  pub free : (k : ℕ) → 0 < heads_in edges ports k → phase marks k ≡ IsFree

pub finished_released : (edges : List Edge) (marks : List Mark) (n : ℕ) (row : List (Option ℕ)) (can : CanFinish edges marks n row) (outs : List (List ℤ)) → IsReleased edges marks n (Rattle.one_job.specs.Marks.Finished outs) row
finished_released edges marks n row can outs = record {
  claimed = can.claimed;
  ended = λ is. absurd (cc);
  unclaimed = λ is. absurd (cc);
  waits = waits_ended edges marks n row can (Rattle.one_job.specs.Marks.Finished outs) refl;
  free = heads_free edges marks n row can;
}

pub failed_released : (edges : List Edge) (marks : List Mark) (n : ℕ) (row : List (Option ℕ)) (can : CanFinish edges marks n row) (code : ℕ) → IsReleased edges marks n (Rattle.one_job.specs.Marks.Failed code) []
failed_released edges marks n row can code = record {
  claimed = can.claimed;
  ended = λ is. absurd (cc);
  unclaimed = λ is. absurd (cc);
  waits = λ k. let same = waits_same edges marks n (Rattle.one_job.specs.Marks.Failed code) (inside_of marks n (claimed_not_free (phase marks n) can.claimed)) (claimed_not_finished (phase marks n) can.claimed) (λ is. absurd (cc)) k in omega arith;
  free = λ k some. absurd (let bad : ⊥ = omega arith in bad);
}

module _ (j : JobView) (one_each : length j.marks ≡ length j.compilation.graph.nodes) (waiting : List ℕ) (claimed : ℕ) (ready : ReadyNodes) (keeps : KeepsReady j waiting claimed ready) (n : ℕ) (m : Mark) (ports : List (Option ℕ))
    (released : IsReleased j.compilation.graph.edges j.marks n m ports) where
  abbrev graph_edges : List Edge
  graph_edges = j.compilation.graph.edges

  abbrev then : JobView
  then = record j { marks = set j.marks n m }

  n_there : n < length j.marks
  n_there = inside_of j.marks n (claimed_not_free (phase j.marks n) released.claimed)

  not_held : (b : Bool) (k : ℕ) → is_in (is_child j) ready k ≡ b → 0 < heads_in graph_edges ports k → b ≡ false
  not_held false k is some = refl
  not_held true k is some =
      let none = waits_none graph_edges j.marks k (can_claim j k one_each ((keeps.exact k).0 is)) in
      let step = released.waits k in
      absurd (let bad : ⊥ = omega arith in bad)

  -- what the release asks
  pub release_can : ((k e : ℕ) → get_or ports k None ≡ Some e → (e < length graph_edges) × ((edge_at graph_edges e).head < length j.compilation.graph.nodes)) → CanRelease (is_child j) graph_edges ports waiting ready
  release_can inside = record {
    edges_in = λ k e is. (inside k e is).0;
    heads = λ k e is. let below = (inside k e is).1 in let l = keeps.long in omega arith;
    wide = λ b. let w = (keeps.ranked b).wide in let l = keeps.long in omega arith;
    sorted = keeps.sorted;
    waits = λ k k_in. let is = keeps.counted k (let l = keeps.long in omega arith) in let step = released.waits k in omega arith;
    out = λ k some. not_held (is_in (is_child j) ready k) k refl some;
  }

  then_each : length then.marks ≡ length j.compilation.graph.nodes
  then_each = length-set j.marks n m ∙ one_each

  phase_then : phase then.marks n ≡ phase_of m
  phase_then = phase_there j.marks n m n_there

  free_then : (k : ℕ) → phase j.marks k ≡ IsFree → phase then.marks k ≡ IsFree
  free_then k free = phase_elsewhere j.marks n k m (λ same. claimed_not_free (phase j.marks n) released.claimed (subst (λ q. phase j.marks q ≡ IsFree) same free)) ∙ free

  free_before : (k : ℕ) → phase then.marks k ≡ IsFree → phase j.marks k ≡ IsFree
  free_before k free = sym (phase_elsewhere j.marks n k m (λ same. released.ended (sym phase_then ∙ subst (λ q. phase then.marks q ≡ IsFree) same free))) ∙ free

  pub finish_ready : (waiting_now : List ℕ) (ready_now : ReadyNodes) → Releases (is_child j) graph_edges ports [] waiting waiting_now ready ready_now → KeepsReady then waiting_now (claimed - 1) ready_now
  finish_ready waiting_now ready_now releases =
      let long = keeps.long in
      let counted_now : (k : ℕ) → k < length j.compilation.graph.nodes → slice_index waiting_now k ≡ waits_for graph_edges then.marks k = λ k inside.
      let was = keeps.counted k inside in let step = released.waits k in let count = releases.counted k in omega arith in
      record {
        ranked = λ b. ranked_still j.compilation.mapping (length j.compilation.graph.nodes) (side ready b) (side ready_now b) (keeps.ranked b) (releases.ranked b);
        sorted = releases.sorted;
        long = releases.long ∙ long;
        counted = counted_now;
        exact = λ k. (
          λ holds. ⊎_elim
              (λ (was_in : is_in (is_child j) ready k ≡ true).
              let was = can_claim j k one_each ((keeps.exact k).0 was_in) in
              let none = waits_none graph_edges j.marks k was in
              let step = released.waits k in
              enabled_of then k then_each (none_waits graph_edges then.marks k (let l = length-set j.marks n m in let t = was.there in omega arith) (free_then k was.free) (omega arith)))
              (λ (new : (heads_in graph_edges [] k < heads_in graph_edges ports k) × (slice_index waiting_now k ≡ 0)).
              let some : 0 < heads_in graph_edges ports k = new.0 in
              let k_in : k < length j.compilation.graph.nodes = inside_now k holds ((releases.ranked (is_child j k)).wide ∙ (keeps.ranked (is_child j k)).wide) in
              let count = counted_now k k_in in
              let zero_now = new.1 in
              enabled_of then k then_each (none_waits graph_edges then.marks k (let l = then_each in omega arith) (free_then k (released.free k some)) (omega arith)))
              (releases.only k holds),
          λ enabled.
              let is = can_claim then k then_each enabled in
              let none = waits_none graph_edges then.marks k is in
              let step = released.waits k in
              let k_in : k < length j.compilation.graph.nodes = (let t = is.there in let l = then_each in omega arith) in
              let count = counted_now k k_in in
              ⊎_elim
              (λ (some : 0 < heads_in graph_edges ports k). releases.new k some (omega arith))
              (λ (no_heads : heads_in graph_edges ports k ≤ 0).
              releases.more k ((keeps.exact k).1 (enabled_of j k one_each (none_waits graph_edges j.marks k (let l = one_each in omega arith) (free_before k is.free) (omega arith)))))
              (cases_lt 0 (heads_in graph_edges ports k)),
        );
        claims_are =
            let step = claims_now j.marks n m n_there in
            let one : bit (is_claimed (phase j.marks n)) ≡ 1 = ap (λ p. bit (is_claimed p)) released.claimed in
            let none : bit (is_claimed (phase_of m)) ≡ 0 = bit_claimed (phase_of m) released.unclaimed in
            let was = keeps.claims_are in
            omega arith;
      }
    where
      inside_now : (k : ℕ) → is_in (is_child j) ready_now k ≡ true → length (side ready_now (is_child j k)).held ≡ length j.compilation.graph.nodes → k < length j.compilation.graph.nodes
      inside_now k holds same = ⊎_elim
          (λ (inside : k < length (side ready_now (is_child j k)).held). omega arith)
          (λ (past : length (side ready_now (is_child j k)).held ≤ k). absurd (false≢true (sym (get_or_past (side ready_now (is_child j k)).held k false past) ∙ holds)))
          (cases_lt k (length (side ready_now (is_child j k)).held))

-- ---- a quiet job

module _ (j : JobView) (one_each : length j.marks ≡ length j.compilation.graph.nodes) (ready_before : (n : ℕ) → phase j.marks n ≢ IsFree → IsReady (graph_of j) (values j.marks) n) (waiting : List ℕ) (claimed : ℕ) (ready : ReadyNodes) (keeps : KeepsReady j waiting claimed ready) where
  ended_by : (m : Mark) → phase_of m ≢ IsFree → phase_of m ≢ IsClaimed → IsEnded (value_of m)
  ended_by Free not_free not_claimed = absurd (not_free refl)
  ended_by (Claimed places) not_free not_claimed = absurd (not_claimed refl)
  ended_by (Rattle.one_job.specs.Marks.Finished outs) not_free not_claimed = tt
  ended_by (Rattle.one_job.specs.Marks.Failed code) not_free not_claimed = tt

  claimed_ended : (m : Mark) → phase_of m ≡ IsClaimed → IsEnded (value_of m) → ⊥
  claimed_ended Free is ended = ended
  claimed_ended (Claimed places) is ended = ended
  claimed_ended (Rattle.one_job.specs.Marks.Finished outs) is ended = absurd (cc)
  claimed_ended (Rattle.one_job.specs.Marks.Failed code) is ended = absurd (cc)

  pub quiet_of : claimed ≡ 0 → ((b : Bool) (n : ℕ) → Holds (side ready b).held n → ⊥) → IsQuiet (graph_of j) (values j.marks)
  quiet_of none_claimed none_in = λ n is_ready.
      let n_in : n < length j.marks = (let t = is_ready.there in let l = one_each in omega arith) in
      ended_by (mark_at j.marks n)
      (λ free. none_in (is_child j n) n ((keeps.exact n).1 record { ready = is_ready; unclaimed = free_mark (mark_at j.marks n) free }))
      (claims_none j.marks (length j.marks) (sym keeps.claims_are ∙ none_claimed) n n_in)

  pub of_quiet : IsQuiet (graph_of j) (values j.marks) → (claimed ≡ 0) × ((b : Bool) (n : ℕ) → Holds (side ready b).held n → ⊥)
  of_quiet quiet = (
    keeps.claims_are ∙ none_claims j.marks (length j.marks) (λ n is. claimed_ended (mark_at j.marks n) is (quiet n (ready_before n (claimed_not_free (phase j.marks n) is)))),
    λ b n holds.
        let enabled = (keeps.exact n).0 (subst (λ q. Holds (side ready q).held n) (sym (keeps.sorted b n holds)) holds) in
        subst (λ m. IsEnded (value_of m)) enabled.unclaimed (quiet n enabled.ready),
  )

-- ---- the start of a job

free_phase : (count n : ℕ) → phase (replicate count Free) n ≡ IsFree
free_phase count n = ap phase_of (⊎_elim
    (λ (inside : n < count). Rattle.std.proofs.lemmas.List.get_or-replicate count n Free Free inside)
    (λ (past : count ≤ n). get_or_past (replicate count Free) n Free (let l = Rattle.std.proofs.lemmas.List.length-replicate count Free in omega arith))
    (cases_lt n count))

pub start_ready_keeps : (j : JobView) (ranking : RankingView) (waiting : List ℕ) (ready : ReadyNodes) → j.marks ≡ replicate (length j.compilation.graph.nodes) Free
    → IsRankingOf j.compilation.mapping ranking → length j.compilation.mapping.home ≡ length j.compilation.graph.nodes
    → AreEndCounts (length j.compilation.graph.nodes) (map head_of j.compilation.graph.edges) waiting
    → AreStarted (is_child j) waiting (length waiting) (none_ready ranking) ready → KeepsReady j waiting 0 ready
start_ready_keeps j ranking waiting ready marks_are ranked homes counts started =
    let long = counts.one_each in
    let each_free : (n : ℕ) → phase j.marks n ≡ IsFree = λ n. ap (λ marks. phase marks n) marks_are ∙ free_phase (length j.compilation.graph.nodes) n in
    let marks_long : length j.marks ≡ length j.compilation.graph.nodes = ap length marks_are ∙ Rattle.std.proofs.lemmas.List.length-replicate (length j.compilation.graph.nodes) Free in
    let waits_all : (n : ℕ) → n < length j.compilation.graph.nodes → slice_index waiting n ≡ waits_for j.compilation.graph.edges j.marks n = λ n inside.
    counts.each n inside
    ∙ (sym (marked_all j.compilation.graph.edges n)
    ∙ marked_same j.compilation.graph.edges (λ e. true) (is_pending j.compilation.graph.edges j.marks) n (length j.compilation.graph.edges) (λ e below. sym (ap is_unfinished (each_free (edge_at j.compilation.graph.edges e).tail)))) in
    record {
      ranked = λ b. ranked_still j.compilation.mapping (length j.compilation.graph.nodes) (side (none_ready ranking) b) (side ready b)
          (none_ranked j.compilation.mapping ranking (length j.compilation.graph.nodes) ranked homes b) (started.ranked b);
      sorted = started.sorted;
      long = long;
      counted = waits_all;
      exact = λ n. (
        λ holds.
            let only = started.only n holds in
            let n_in : n < length j.compilation.graph.nodes = (let below = only.0 in omega arith) in
            enabled_of j n marks_long (none_waits j.compilation.graph.edges j.marks n (omega arith) (each_free n) (sym (waits_all n n_in) ∙ only.1)),
        λ enabled.
            let is = can_claim j n marks_long enabled in
            let n_in : n < length j.compilation.graph.nodes = (let t = is.there in omega arith) in
            started.in_now n (omega arith) (waits_all n n_in ∙ waits_none j.compilation.graph.edges j.marks n is),
      );
      claims_are = sym (none_claims j.marks (length j.marks) (λ n. free_not_claimed (phase j.marks n) (each_free n)));
    }
