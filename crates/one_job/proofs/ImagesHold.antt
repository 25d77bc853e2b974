-- Full buffers hold their tokens after any claims and finishes.
use Rattle.std.proofs.Common.{◌≡◌, ℕ, zero, suc, ℤ, pos, ◌+◌, ◌<◌, ◌≤◌, ⊎_elim, List, [], ◌∷◌, length, set, replicate, refl, sym, ap, ◌∙◌, subst, arith}
use Rattle.std.specs.Prelude.{◌≢◌, ◌==◌, Result, Ok, Err, slice_index, if◌then◌else◌}
use Rattle.std.proofs.lemmas.Bool.{cases_eq, cases_lt, eq-eqb, ne_eqb}
use Rattle.std.proofs.lemmas.List.{length-set, length-replicate, get_or-replicate, get_or_past}
use Rattle.sdf_level.specs.declared.single_rate.Edge.{Edge}
use Rattle.split_block.specs.Places.{Place, Apart, window, write}
use Rattle.job_compiler.specs.Compilation.{Compilation, IsCompiled}
use Rattle.job_flow.specs.Frames.{given, on_edge}
use Rattle.one_job.specs.Marks.{Mark, Free, Claimed, Finished, Failed, mark_at, IsFree, IsClaimed, IsFinished, IsFailed, nowhere, phase, phase_of, values, value_of}
use Rattle.one_job.specs.Places.{edge_at, buffer_at}
use Rattle.one_job.specs.Live.{InOrder, IsLive, IsFull, HoldFull}
use Rattle.one_job.specs.Images.{Event, Claim, Finish, mark_with, marks_after, out_at, written, written_by, image, FitsEdges, AreEvents}
use Rattle.one_job.proofs.Phases.{inside_of, mark_there, mark_elsewhere, phase_there, phase_elsewhere, finished_not_free, claimed_not_free, claimed_not_finished, free_not_finished, free_not_failed}
use Rattle.one_job.proofs.Order.{IsLaid, live_apart, buffer_within, full_live, claim_keeps_order, finish_keeps_order}
use Rattle.one_job.proofs.Cells.{length-write, window-write_same, window-write_apart}
use Rattle.one_job.proofs.Wires.{laid_of}

-- ---- what is written

module _ (edges : List Edge) (offsets : List ℕ) (n : ℕ) (outs : List (List ℤ)) (cells : List ℤ) (fits : (e : ℕ) → e < length edges → (edge_at edges e).tail ≡ n → length (out_at edges outs e) ≡ (edge_at edges e).size)
    (within : (e : ℕ) → e < length edges → (buffer_at edges offsets e).start + (buffer_at edges offsets e).len ≤ length cells) where
  abbrev so_far : ℕ → List ℤ
  so_far k = written edges offsets n outs k cells

  yes : (k : ℕ) → (edge_at edges k).tail ≡ n → so_far (suc k) ≡ write (slice_index offsets k) (out_at edges outs k) (so_far k)
  yes k here = ap (λ b. if b then write (slice_index offsets k) (out_at edges outs k) (so_far k) else so_far k) (eq-eqb (edge_at edges k).tail n here)

  no_write : (k : ℕ) → ((edge_at edges k).tail ≡ n → ⊥) → so_far (suc k) ≡ so_far k
  no_write k differs = ap (λ b. if b then write (slice_index offsets k) (out_at edges outs k) (so_far k) else so_far k) (ne_eqb (edge_at edges k).tail n differs)

  pub long : (k : ℕ) → k ≤ length edges → length (so_far k) ≡ length cells
  long zero below = refl
  long (suc k) below = ⊎_elim
      (λ (here : (edge_at edges k).tail ≡ n).
      ap length (yes k here)
      ∙ (length-write (slice_index offsets k) (out_at edges outs k) (so_far k)
      (let fit = fits k (omega arith) here in let w = within k (omega arith) in let l = long k (omega arith) in omega arith)
      ∙ long k (omega arith)))
      (λ (differs : (edge_at edges k).tail ≡ n → ⊥). ap length (no_write k differs) ∙ long k (omega arith))
      (cases_eq (edge_at edges k).tail n)

  -- a place apart from all that is written stays
  pub stays : (p : Place) → p.start + p.len ≤ length cells → ((e : ℕ) → e < length edges → (edge_at edges e).tail ≡ n → Apart p (buffer_at edges offsets e)) → (k : ℕ) → k ≤ length edges → window p.start p.len (so_far k) ≡ window p.start p.len cells
  stays p inside apart zero below = refl
  stays p inside apart (suc k) below = ⊎_elim
      (λ (here : (edge_at edges k).tail ≡ n).
      let fit = fits k (omega arith) here in
      let w = within k (omega arith) in
      let l = long k (omega arith) in
      ap (window p.start p.len) (yes k here)
      ∙ (window-write_apart p (slice_index offsets k) (out_at edges outs k) (so_far k) (omega arith) (omega arith)
      (subst (λ s. Apart p (record { start = slice_index offsets k; len = s })) (sym fit) (apart k (omega arith) here))
      ∙ stays p inside apart k (omega arith)))
      (λ (differs : (edge_at edges k).tail ≡ n → ⊥). ap (window p.start p.len) (no_write k differs) ∙ stays p inside apart k (omega arith))
      (cases_eq (edge_at edges k).tail n)

  -- each output is there, where no two buffers that are written share a cell
  pub stands : ((e f : ℕ) → e < length edges → f < length edges → (edge_at edges e).tail ≡ n → (edge_at edges f).tail ≡ n → e ≢ f → Apart (buffer_at edges offsets e) (buffer_at edges offsets f))
      → (e : ℕ) → e < length edges → (edge_at edges e).tail ≡ n → (k : ℕ) → e < k → k ≤ length edges → window (slice_index offsets e) (edge_at edges e).size (so_far k) ≡ out_at edges outs e
  stands apart e e_in e_here zero before below = absurd (let bad : ⊥ = omega arith in bad)
  stands apart e e_in e_here (suc k) before below = ⊎_elim
      (λ (last : e ≡ k).
      let fit = fits e e_in e_here in
      let w = within e e_in in
      let l = long k (omega arith) in
      let l_e : length (so_far e) ≡ length cells = long e (omega arith) in
      subst (λ q. window (slice_index offsets e) (edge_at edges e).size (so_far (suc q)) ≡ out_at edges outs e) last
      (ap (window (slice_index offsets e) (edge_at edges e).size) (yes e e_here)
      ∙ (ap (λ s. window (slice_index offsets e) s (write (slice_index offsets e) (out_at edges outs e) (so_far e))) (sym fit)
      ∙ window-write_same (slice_index offsets e) (out_at edges outs e) (so_far e) (omega arith))))
      (λ (not_last : e ≡ k → ⊥).
      let earlier : e < k = ⊎_elim (λ (less : e < k). less) (λ (up : k ≤ e). absurd (not_last (omega arith))) (cases_lt e k) in
      ⊎_elim
      (λ (here : (edge_at edges k).tail ≡ n).
      let fit = fits k (omega arith) here in
      let w = within k (omega arith) in
      let w_e = within e e_in in
      let l = long k (omega arith) in
      ap (window (slice_index offsets e) (edge_at edges e).size) (yes k here)
      ∙ (window-write_apart (buffer_at edges offsets e) (slice_index offsets k) (out_at edges outs k) (so_far k) (omega arith) (omega arith)
      (subst (λ s. Apart (buffer_at edges offsets e) (record { start = slice_index offsets k; len = s })) (sym fit) (apart e k e_in (omega arith) e_here here not_last))
      ∙ stands apart e e_in e_here k earlier (omega arith)))
      (λ (differs : (edge_at edges k).tail ≡ n → ⊥). ap (window (slice_index offsets e) (edge_at edges e).size) (no_write k differs) ∙ stands apart e e_in e_here k earlier (omega arith))
      (cases_eq (edge_at edges k).tail n))
      (cases_eq e k)

-- ---- one event

-- what events keep
pub record Holds (c : Compilation) (marks : List Mark) (cells : List ℤ) : Type 0 where
  pub marks_long : length marks ≡ length c.graph.nodes
  pub cells_long : length cells ≡ c.placement.height
  pub order : InOrder c.graph.edges marks
  pub full : HoldFull c.graph.edges c.placement.offsets marks cells

module _ (c : Compilation) (is : IsCompiled c) (marks : List Mark) (cells : List ℤ) (holds : Holds c marks cells) (n : ℕ) where
  abbrev edges : List Edge
  edges = c.graph.edges

  abbrev offsets : List ℕ
  offsets = c.placement.offsets

  laid : IsLaid edges offsets c.placement.height
  laid = laid_of c is

  -- an edge that is full then and doesn't leave the node was full before
  full_before : (m : Mark) → n < length marks → phase marks n ≢ IsFinished → phase marks n ≢ IsFailed → (e : ℕ) → (edge_at edges e).tail ≢ n → IsFull edges (set marks n m) e → IsFull edges marks e
  full_before m there undone unfailed e differs full = record {
    given = sym (phase_elsewhere marks n (edge_at edges e).tail m differs) ∙ full.given;
    unfinished = λ done. ⊎_elim
        (λ (here : (edge_at edges e).head ≡ n). undone (subst (λ v. phase marks v ≡ IsFinished) here done))
        (λ (elsewhere : (edge_at edges e).head ≡ n → ⊥). full.unfinished (phase_elsewhere marks n (edge_at edges e).head m elsewhere ∙ done))
        (cases_eq (edge_at edges e).head n);
    unfailed = λ failed. ⊎_elim
        (λ (here : (edge_at edges e).head ≡ n). unfailed (subst (λ v. phase marks v ≡ IsFailed) here failed))
        (λ (elsewhere : (edge_at edges e).head ≡ n → ⊥). full.unfailed (phase_elsewhere marks n (edge_at edges e).head m elsewhere ∙ failed))
        (cases_eq (edge_at edges e).head n);
  }

  same_on : (m : Mark) (e : ℕ) → (edge_at edges e).tail ≢ n → on_edge (values marks) (edge_at edges e) ≡ on_edge (values (set marks n m)) (edge_at edges e)
  same_on m e differs = ap (λ (k : Mark). Rattle.std.specs.Prelude.slice_index_or (given (value_of k)) (edge_at edges e).tail_port []) (sym (mark_elsewhere marks n (edge_at edges e).tail m differs))

  pub claim_holds : n < length c.graph.nodes → phase marks n ≡ IsFree → ((e : ℕ) → e < length edges → (edge_at edges e).head ≡ n → phase marks (edge_at edges e).tail ≡ IsFinished) → Holds c (set marks n (Claimed nowhere)) cells
  claim_holds inside free before =
      let m : Mark = Claimed nowhere in
      let there : n < length marks = (let l = holds.marks_long in omega arith) in
      record {
        marks_long = length-set marks n m ∙ holds.marks_long;
        cells_long = holds.cells_long;
        order = claim_keeps_order edges marks holds.order n m record { there = there; free = free; before = before };
        full = λ e e_in full.
            let differs : (edge_at edges e).tail ≢ n = λ here. claimed_not_finished IsClaimed refl (sym (phase_there marks n m there) ∙ subst (λ v. phase (set marks n m) v ≡ IsFinished) here full.given) in
            holds.full e e_in (full_before m there (free_not_finished (phase marks n) free) (free_not_failed (phase marks n) free) e differs full) ∙ same_on m e differs;
      }

  module _ (claimed : phase marks n ≡ IsClaimed) where
    there : n < length marks
    there = inside_of marks n (claimed_not_free (phase marks n) claimed)

    -- the buffers out of a claimed node are live
    out_live : (e : ℕ) → e < length edges → (edge_at edges e).tail ≡ n → IsLive edges marks e
    out_live e inside here =
        let unfinished : phase marks (edge_at edges e).head ≢ IsFree → ⊥ = λ not_free. claimed_not_finished (phase marks n) claimed (subst (λ v. phase marks v ≡ IsFinished) here (holds.order e inside not_free)) in
        record {
          claimed = λ free. claimed_not_free (phase marks n) claimed (subst (λ v. phase marks v ≡ IsFree) here free);
          unfinished = λ done. unfinished (finished_not_free (phase marks (edge_at edges e).head) done);
          unfailed = λ failed. unfinished (Rattle.one_job.proofs.Phases.failed_not_free (phase marks (edge_at edges e).head) failed);
        }

    claimed_not_failed : phase marks n ≢ IsFailed
    claimed_not_failed = Rattle.one_job.proofs.Phases.claimed_not_failed (phase marks n) claimed

    within : (e : ℕ) → e < length edges → (buffer_at edges offsets e).start + (buffer_at edges offsets e).len ≤ length cells
    within e inside = let w = buffer_within edges offsets c.placement.height laid e inside in let l = holds.cells_long in omega arith

    pub finish_holds : (answer : Result (List (List ℤ)) ℕ) → FitsEdges edges n answer → Holds c (set marks n (mark_with answer)) (written_by c n answer cells)
    finish_holds (Ok outs) fits = record {
      marks_long = length-set marks n (Finished outs) ∙ holds.marks_long;
      cells_long = long edges offsets n outs cells fits within (length edges) (omega arith) ∙ holds.cells_long;
      order = finish_keeps_order edges marks holds.order n (Finished outs) claimed;
      full = λ e e_in full. ⊎_elim
          (λ (here : (edge_at edges e).tail ≡ n).
          stands edges offsets n outs cells fits within
          (λ f g f_in g_in f_here g_here differ. live_apart edges offsets c.placement.height laid marks holds.order f g f_in g_in differ (out_live f f_in f_here) (out_live g g_in g_here))
          e e_in here (length edges) e_in (omega arith)
          ∙ ap (λ (k : Mark). Rattle.std.specs.Prelude.slice_index_or (given (value_of k)) (edge_at edges e).tail_port []) (sym (ap (mark_at (set marks n (Finished outs))) here ∙ mark_there marks n (Finished outs) there)))
          (λ (differs : (edge_at edges e).tail ≡ n → ⊥).
          let was = full_before (Finished outs) there (claimed_not_finished (phase marks n) claimed) claimed_not_failed e differs full in
          stays edges offsets n outs cells fits within (buffer_at edges offsets e) (within e e_in)
          (λ f f_in f_here. live_apart edges offsets c.placement.height laid marks holds.order e f e_in f_in (λ same. differs (subst (λ q. (edge_at edges q).tail ≡ n) (sym same) f_here)) (full_live edges marks holds.order e was) (out_live f f_in f_here))
          (length edges) (omega arith)
          ∙ (holds.full e e_in was ∙ same_on (Finished outs) e differs))
          (cases_eq (edge_at edges e).tail n);
    }
    finish_holds (Err code) fits = record {
      marks_long = length-set marks n (Failed code) ∙ holds.marks_long;
      cells_long = holds.cells_long;
      order = finish_keeps_order edges marks holds.order n (Failed code) claimed;
      full = λ e e_in full.
          let differs : (edge_at edges e).tail ≢ n = λ here. let bad : IsFailed ≡ IsFinished = sym (phase_there marks n (Failed code) there) ∙ subst (λ v. phase (set marks n (Failed code)) v ≡ IsFinished) here full.given in absurd (cc) in
          holds.full e e_in (full_before (Failed code) there (claimed_not_finished (phase marks n) claimed) claimed_not_failed e differs full) ∙ same_on (Failed code) e differs;
    }

-- ---- all events

free_at : (count n : ℕ) → phase (replicate count Free) n ≡ IsFree
free_at count n = ap phase_of (⊎_elim
    (λ (inside : n < count). get_or-replicate count n Free Free inside)
    (λ (past : count ≤ n). get_or_past (replicate count Free) n Free (let l = length-replicate count Free in omega arith))
    (cases_lt n count))

pub events_hold : (c : Compilation) (events : List Event) → IsCompiled c → AreEvents c events → Holds c (marks_after (length c.graph.nodes) events) (image c events)
events_hold c [] is are = record {
  marks_long = length-replicate (length c.graph.nodes) Free;
  cells_long = length-replicate c.placement.height (pos 0);
  order = λ e inside not_free. absurd (not_free (free_at (length c.graph.nodes) (edge_at c.graph.edges e).head));
  full = λ e inside full. absurd (free_not_finished (phase (replicate (length c.graph.nodes) Free) (edge_at c.graph.edges e).tail) (free_at (length c.graph.nodes) (edge_at c.graph.edges e).tail) full.given);
}
events_hold c (Claim n ∷ before) is are = claim_holds c is (marks_after (length c.graph.nodes) before) (image c before) (events_hold c before is are.0) n are.1.0 are.1.1 are.1.2
events_hold c (Finish n answer ∷ before) is are = finish_holds c is (marks_after (length c.graph.nodes) before) (image c before) (events_hold c before is are.0) n are.1.0 answer are.1.1
