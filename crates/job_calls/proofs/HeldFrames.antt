-- Frames that wait, one after the other taken from the end.
use Rattle.std.proofs.Common.{◌≡◌, ◌≢◌, ℕ, ◌+◌, ◌<◌, ◌≤◌, ⊎_elim, List, [], ◌∷◌, ◌++◌, length, set, Option, Some, None, refl, sym, ap, ◌∙◌, arith}
use Rattle.std.proofs.lemmas.Bool.{cases_lt}
use Rattle.std.proofs.lemmas.List.{get_or-append-add, get_or_append_left, get_or-set_other, get_or-set_same, get_or_past, length-append}
use Rattle.kernel_gate.specs.Value.{FrameView, Places}
use Rattle.one_job.specs.Marks.{Mark, Free, Claimed, Finished, Failed, IsClaimed, mark_at, phase, phase_of}
use Rattle.job_calls.specs.Held.{HoldClaimed, frame_at}

last_at : (rest : List (Option FrameView)) (last : Option FrameView) → frame_at (rest ++ last ∷ []) (length rest) ≡ last
last_at rest last = let e : length rest ≡ length rest + 0 = omega arith in ap (frame_at (rest ++ last ∷ [])) e ∙ get_or-append-add rest (last ∷ []) 0 None

pub inside_of : (frames : List (Option FrameView)) (n : ℕ) (frame : FrameView) → frame_at frames n ≡ Some frame → n < length frames
inside_of frames n frame is = ⊎_elim
    (λ (inside : n < length frames). inside)
    (λ (past : length frames ≤ n). absurd (let e : None ≡ Some frame = sym (get_or_past frames n None past) ∙ is in cc))
    (cases_lt n (length frames))

module _ (marks : List Mark) (rest : List (Option FrameView)) (last : Option FrameView) (held : HoldClaimed marks (rest ++ last ∷ [])) where
  before : (n : ℕ) → n < length rest → frame_at (rest ++ last ∷ []) n ≡ frame_at rest n
  before n inside = get_or_append_left rest (last ∷ []) None n inside

  small : (n : ℕ) (frame : FrameView) → frame_at (rest ++ last ∷ []) n ≡ Some frame → n ≢ length rest → n < length rest
  small n frame is other = let l = length-append rest (last ∷ []) in let i = inside_of (rest ++ last ∷ []) n frame is in omega arith

  -- without the last place, at which no frame waits
  pub none_last : last ≡ None → HoldClaimed marks rest
  none_last none = record {
    claimed = λ n frame is. held.claimed n frame (before n (inside_of rest n frame is) ∙ is);
    waits = λ n places is.
        let w = held.waits n places is in
        let other : n ≢ length rest = λ same. let e : None ≡ Some w.0 = sym none ∙ sym (last_at rest last) ∙ ap (frame_at (rest ++ last ∷ [])) (sym same) ∙ w.1 in cc in
        (w.0, sym (before n (small n w.0 w.1 other)) ∙ w.1);
  }

  pub last_claimed : (frame : FrameView) → last ≡ Some frame → mark_at marks (length rest) ≡ Claimed frame.places
  last_claimed frame is = held.claimed (length rest) frame (last_at rest last ∙ is)

  -- without the last place, whose node is finished
  pub some_last : (frame : FrameView) → last ≡ Some frame → HoldClaimed (set marks (length rest) (Finished frame.outputs)) rest
  some_last frame is = record {
    claimed = λ n f at.
        let inside = inside_of rest n f at in
        get_or-set_other marks (length rest) n (Finished frame.outputs) Free (λ same. omega arith) ∙ held.claimed n f (before n inside ∙ at);
    waits = λ n places at.
        let own = last_claimed frame is in
        let other : n ≢ length rest = λ same. finished n places same own at in
        let w = held.waits n places (sym (get_or-set_other marks (length rest) n (Finished frame.outputs) Free other) ∙ at) in
        (w.0, sym (before n (small n w.0 w.1 other)) ∙ w.1);
  }
    where
      inner : (n : ℕ) → mark_at marks n ≡ Claimed frame.places → n < length marks
      inner n claimed = ⊎_elim
          (λ (inside : n < length marks). inside)
          (λ (past : length marks ≤ n). absurd (let e : Free ≡ Claimed frame.places = sym (get_or_past marks n Free past) ∙ claimed in cc))
          (cases_lt n (length marks))

      finished : (n : ℕ) (places : Places) → n ≡ length rest → mark_at marks (length rest) ≡ Claimed frame.places → mark_at (set marks (length rest) (Finished frame.outputs)) n ≡ Claimed places → ⊥
      finished n places same own at =
          let e : Finished frame.outputs ≡ Claimed places = sym (get_or-set_same marks (length rest) (Finished frame.outputs) Free (inner (length rest) own)) ∙ ap (mark_at (set marks (length rest) (Finished frame.outputs))) (sym same) ∙ at in cc

claimed_at : (m : Mark) → phase_of m ≡ IsClaimed → (places : Places) × (m ≡ Claimed places)
claimed_at Free is = absurd (cc)
claimed_at (Claimed places) is = (places, refl)
claimed_at (Finished outs) is = absurd (cc)
claimed_at (Failed code) is = absurd (cc)

-- where no frame waits, no node is claimed
pub none_claimed : (marks : List Mark) (frames : List (Option FrameView)) → HoldClaimed marks frames → length frames ≡ 0 → (n : ℕ) → phase marks n ≢ IsClaimed
none_claimed marks frames held none n is =
    let c = claimed_at (mark_at marks n) is in
    let w = held.waits n c.0 c.1 in
    let i = inside_of frames n w.0 w.1 in
    absurd (omega arith)
