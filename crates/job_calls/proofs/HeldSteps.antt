-- The frames that wait, when a job starts, and when a node is claimed or finished.
use Rattle.std.proofs.Common.{◌≡◌, ◌≢◌, ℕ, ℤ, ◌<◌, ◌≤◌, ⊎_elim, List, length, set, replicate, refl, sym, ap, ◌∙◌, arith}
use Rattle.std.specs.Prelude.{Option, Some, None, Result, Ok, Err}
use Rattle.std.proofs.lemmas.Bool.{cases_eq, cases_lt}
use Rattle.std.proofs.lemmas.List.{get_or-replicate, get_or-set_other, get_or-set_same, get_or_past, length-replicate, length-set}
use Rattle.kernel_gate.specs.Value.{FrameView, Places}
use Rattle.kernel_gate.specs.declared.fault.KernelFault.{KernelFault}
use Rattle.one_job.specs.Marks.{Mark, Free, Claimed, Finished, IsClaimed, mark_at, phase, phase_of}
use Rattle.one_job.specs.Calls.{finished_with}
use Rattle.one_job.specs.View.{JobView}
use Rattle.job_calls.specs.Held.{HoldClaimed, Holds, IsHeld, KeepsHeld, frame_at}
use Rattle.job_calls.proofs.HeldFrames.{inside_of}

-- ---- at the start

free_at : (count n : ℕ) → mark_at (replicate count Free) n ≡ Free
free_at count n = ⊎_elim
    (λ (inside : n < count). get_or-replicate count n Free Free inside)
    (λ (past : count ≤ n). get_or_past (replicate count Free) n Free (omega (arith, past, length-replicate count Free)))
    (cases_lt n count)

pub none_claimed_first : (marks : List Mark) (count : ℕ) → marks ≡ replicate count Free → (n : ℕ) → phase marks n ≢ IsClaimed
none_claimed_first marks count is n claimed =
    let free : mark_at marks n ≡ Free = ap (λ (ms : List Mark). mark_at ms n) is ∙ free_at count n in
    let bad : phase_of Free ≡ IsClaimed = sym (ap phase_of free) ∙ claimed in absurd (cc)

abbrev nothing : Option FrameView
nothing = None

none_at : (count n : ℕ) → frame_at (replicate count nothing) n ≡ None
none_at count n = ⊎_elim
    (λ (inside : n < count). get_or-replicate count n nothing nothing inside)
    (λ (past : count ≤ n). get_or_past (replicate count nothing) n nothing (omega (arith, past, length-replicate count nothing)))
    (cases_lt n count)

pub held_first : (marks : List Mark) (frames : List (Option FrameView)) (count : ℕ) → ((n : ℕ) → phase marks n ≢ IsClaimed) → frames ≡ replicate count None → HoldClaimed marks frames
held_first marks frames count none is = record {
  claimed = λ n frame found. let bad : None ≡ Some frame = sym (none_at count n) ∙ (ap (λ (fs : List (Option FrameView)). frame_at fs n) (sym is) ∙ found) in absurd (cc);
  waits = λ n places found. absurd (none n (ap phase_of found));
}

pub holds_first : (j : JobView) (frames : List (Option FrameView)) (count : ℕ) → ((n : ℕ) → phase j.marks n ≢ IsClaimed) → count ≡ length j.compilation.graph.nodes → frames ≡ replicate count None → Holds j frames
holds_first j frames count none all is = record {
  one_each = ap (λ (fs : List (Option FrameView)). length fs) is ∙ (length-replicate count nothing ∙ all);
  held = held_first j.marks frames count none is;
}

-- ---- a node is claimed

free_not_claimed : (places : Places) → Free ≡ Claimed places → ⊥
free_not_claimed places same = absurd (cc)

module _ (marks : List Mark) (frames : List (Option FrameView)) (held : HoldClaimed marks frames) (n : ℕ) where
  -- no frame of a free node waits
  pub none_waits : mark_at marks n ≡ Free → frame_at frames n ≡ None
  none_waits free = by (frame_at frames n) refl
    where
      by : (found : Option FrameView) → frame_at frames n ≡ found → found ≡ None
      by None is = refl
      by (Some frame) is = absurd (free_not_claimed frame.places (sym free ∙ held.claimed n frame is))

  pub held_claimed : (frame : FrameView) → n < length marks → n < length frames → HoldClaimed (set marks n (Claimed frame.places)) (set frames n (Some frame))
  held_claimed frame marked inside = record {
    claimed = λ m other found. ⊎_elim
        (λ (same : m ≡ n).
        let here : Some frame ≡ Some other = sym (get_or-set_same frames n (Some frame) None inside) ∙ (ap (frame_at (set frames n (Some frame))) (sym same) ∙ found) in
        let is : frame ≡ other = cc in
        ap (mark_at (set marks n (Claimed frame.places))) same ∙ (get_or-set_same marks n (Claimed frame.places) Free marked ∙ ap (λ (f : FrameView). Claimed f.places) is))
        (λ (differs : m ≡ n → ⊥).
        get_or-set_other marks n m (Claimed frame.places) Free differs ∙ held.claimed m other (sym (get_or-set_other frames n m (Some frame) None differs) ∙ found))
        (cases_eq m n);
    waits = λ m places found. ⊎_elim
        (λ (same : m ≡ n). (frame, ap (frame_at (set frames n (Some frame))) same ∙ get_or-set_same frames n (Some frame) None inside))
        (λ (differs : m ≡ n → ⊥).
        let w = held.waits m places (sym (get_or-set_other marks n m (Claimed frame.places) Free differs) ∙ found) in
        (w.0, get_or-set_other frames n m (Some frame) None differs ∙ w.1))
        (cases_eq m n);
  }

  -- ---- a claimed node is finished

  pub held_finished : (mark : Mark) → (phase_of mark ≢ IsClaimed) → IsHeld frames n → HoldClaimed (set marks n mark) (set frames n None)
  held_finished mark ended is = record {
    claimed = λ m other found. ⊎_elim
        (λ (same : m ≡ n).
        let bad : None ≡ Some other = sym (get_or-set_same frames n None None (inside_of frames n is.0 is.1)) ∙ (ap (frame_at (set frames n None)) (sym same) ∙ found) in absurd (cc))
        (λ (differs : m ≡ n → ⊥).
        get_or-set_other marks n m mark Free differs ∙ held.claimed m other (sym (get_or-set_other frames n m None None differs) ∙ found))
        (cases_eq m n);
    waits = λ m places found. ⊎_elim
        (λ (same : m ≡ n). absurd (not_set marks n mark ended (ap phase_of (ap (mark_at (set marks n mark)) (sym same) ∙ found))))
        (λ (differs : m ≡ n → ⊥).
        let w = held.waits m places (sym (get_or-set_other marks n m mark Free differs) ∙ found) in
        (w.0, get_or-set_other frames n m None None differs ∙ w.1))
        (cases_eq m n);
  }
    where
      not_set : (marks : List Mark) (n : ℕ) (mark : Mark) → (phase_of mark ≢ IsClaimed) → phase (set marks n mark) n ≢ IsClaimed
      not_set marks n mark ended claimed = ⊎_elim
          (λ (inside : n < length marks). ended (sym (ap phase_of (get_or-set_same marks n mark Free inside)) ∙ claimed))
          (λ (past : length marks ≤ n).
          let free : mark_at (set marks n mark) n ≡ Free = get_or_past (set marks n mark) n Free (omega (arith, past, length-set marks n mark)) in
          let bad : phase_of Free ≡ IsClaimed = sym (ap phase_of free) ∙ claimed in absurd (cc))
          (cases_lt n (length marks))

pub ended_unclaimed : (frame : FrameView) (answer : Result (Unit {0}) KernelFault) → phase_of (finished_with frame answer) ≢ IsClaimed
ended_unclaimed frame (Ok done) is = absurd (cc)
ended_unclaimed frame (Err fault) is = absurd (cc)

-- ---- a node is claimed and finished at once

module _ (marks : List Mark) (n : ℕ) (free : mark_at marks n ≡ Free) (places : Places) (outs : List (List ℤ)) where
  abbrev passed : List Mark
  passed = set (set marks n (Claimed places)) n (Finished outs)

  other_passed : (m : ℕ) → (m ≡ n → ⊥) → mark_at passed m ≡ mark_at marks m
  other_passed m differs = get_or-set_other (set marks n (Claimed places)) n m (Finished outs) Free differs ∙ get_or-set_other marks n m (Claimed places) Free differs

  pub passed_kept : (m : ℕ) (at : Places) → mark_at marks m ≡ Claimed at → mark_at passed m ≡ Claimed at
  passed_kept m at found = ⊎_elim
      (λ (same : m ≡ n). absurd (free_not_claimed at (sym free ∙ (ap (mark_at marks) (sym same) ∙ found))))
      (λ (differs : m ≡ n → ⊥). other_passed m differs ∙ found)
      (cases_eq m n)

  own_passed : (at : Places) → mark_at passed n ≡ Claimed at → ⊥
  own_passed at found = ⊎_elim
      (λ (inside : n < length (set marks n (Claimed places))).
      let bad : Finished outs ≡ Claimed at = sym (get_or-set_same (set marks n (Claimed places)) n (Finished outs) Free inside) ∙ found in absurd (cc))
      (λ (past : length (set marks n (Claimed places)) ≤ n).
      free_not_claimed at (sym (get_or_past passed n Free (omega (arith, past, length-set (set marks n (Claimed places)) n (Finished outs)))) ∙ found))
      (cases_lt n (length (set marks n (Claimed places))))

  pub passed_only : (m : ℕ) (at : Places) → mark_at passed m ≡ Claimed at → mark_at marks m ≡ Claimed at
  passed_only m at found = ⊎_elim
      (λ (same : m ≡ n). absurd (own_passed at (ap (mark_at passed) (sym same) ∙ found)))
      (λ (differs : m ≡ n → ⊥). sym (other_passed m differs) ∙ found)
      (cases_eq m n)

pub keeps_first : (j : JobView) → KeepsHeld j j
keeps_first j = record { same = refl; kept = λ n places found. found; only = λ n places found. found }

pub keeps_on : (before then after : JobView) → KeepsHeld before then → KeepsHeld then after → KeepsHeld before after
keeps_on before then after one other = record {
  same = other.same ∙ one.same;
  kept = λ n places found. other.kept n places (one.kept n places found);
  only = λ n places found. one.only n places (other.only n places found);
}
