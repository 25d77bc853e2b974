-- Frames that wait for the end of calls.
use Rattle.std.proofs.Common.{◌≡◌, ◌≢◌, ℕ, ◌+◌, ◌<◌, ◌≤◌, ⊎_elim, List, [], ◌∷◌, ◌++◌, length, set, Some, None, refl, sym, ap, ◌∙◌, arith}
use Rattle.std.proofs.lemmas.Bool.{cases_lt}
use Rattle.std.proofs.lemmas.List.{get_or-append-add, get_or_append_left, get_or-set_other, get_or-set_same, get_or_past, length-append}
use Rattle.kernel_gate.specs.Value.{FrameView, Places}
use Rattle.one_job.specs.Marks.{Mark, Free, Claimed, Finished, Failed, IsClaimed, mark_at, phase, phase_of}
use Rattle.graph_firing.specs.declared.nodes.frames.Held.{Held}
use Rattle.graph_firing.specs.declared.nodes.frames.Held.TheVariants.{Nothing, Waits, Refuses}
use Rattle.graph_firing.specs.Nodes.Parts.{HoldClaimed, NoneWaits, frame_in, held_at}

last_at : (rest : List Held) (last : Held) → held_at (rest ++ last ∷ []) (length rest) ≡ last
last_at rest last = let e : length rest ≡ length rest + 0 = omega arith in ap (held_at (rest ++ last ∷ [])) e ∙ get_or-append-add rest (last ∷ []) 0 Nothing

inside_of : (held : List Held) (n : ℕ) (frame : FrameView) → held_at held n ≡ Waits frame → n < length held
inside_of held n frame is = ⊎_elim
    (λ (inside : n < length held). inside)
    (λ (past : length held ≤ n). absurd (let e : Nothing ≡ Waits frame = sym (get_or_past held n Nothing past) ∙ is in cc))
    (cases_lt n (length held))

module _ (marks : List Mark) (rest : List Held) (last : Held) (held : HoldClaimed marks (rest ++ last ∷ [])) where
  before : (n : ℕ) → n < length rest → held_at (rest ++ last ∷ []) n ≡ held_at rest n
  before n inside = get_or_append_left rest (last ∷ []) Nothing n inside

  small : (n : ℕ) (frame : FrameView) → held_at (rest ++ last ∷ []) n ≡ Waits frame → n ≢ length rest → n < length rest
  small n frame is other = let l = length-append rest (last ∷ []) in let i = inside_of (rest ++ last ∷ []) n frame is in omega arith

  -- without the last place, at which no frame waits
  pub none_last : ((frame : FrameView) → last ≢ Waits frame) → HoldClaimed marks rest
  none_last none = record {
    claimed = λ n frame is. held.claimed n frame (before n (inside_of rest n frame is) ∙ is);
    waits = λ n places is.
        let w = held.waits n places is in
        let other : n ≢ length rest = λ same. none w.0 (sym (last_at rest last) ∙ ap (held_at (rest ++ last ∷ [])) (sym same) ∙ w.1) in
        (w.0, sym (before n (small n w.0 w.1 other)) ∙ w.1);
  }

  pub last_claimed : (frame : FrameView) → last ≡ Waits frame → mark_at marks (length rest) ≡ Claimed frame.places
  last_claimed frame is = held.claimed (length rest) frame (last_at rest last ∙ is)

  -- without the last place, whose node is finished
  pub some_last : (frame : FrameView) → last ≡ Waits frame → HoldClaimed (set marks (length rest) (Finished frame.outputs)) rest
  some_last frame is = record {
    claimed = λ n f at.
        let inside = inside_of rest n f at in
        get_or-set_other marks (length rest) n (Finished frame.outputs) Free (λ same. omega arith) ∙ held.claimed n f (before n inside ∙ at);
    waits = λ n places at.
        let own = last_claimed frame is in
        let other : n ≢ length rest = λ same. finished n places same own at in
        let w = held.waits n places (sym (get_or-set_other marks (length rest) n (Finished frame.outputs) Free other) ∙ at) in
        (w.0, sym (before n (small n w.0 w.1 other)) ∙ w.1);
  }
    where
      inner : (n : ℕ) → mark_at marks n ≡ Claimed frame.places → n < length marks
      inner n claimed = ⊎_elim
          (λ (inside : n < length marks). inside)
          (λ (past : length marks ≤ n). absurd (let e : Free ≡ Claimed frame.places = sym (get_or_past marks n Free past) ∙ claimed in cc))
          (cases_lt n (length marks))

      finished : (n : ℕ) (places : Places) → n ≡ length rest → mark_at marks (length rest) ≡ Claimed frame.places → mark_at (set marks (length rest) (Finished frame.outputs)) n ≡ Claimed places → ⊥
      finished n places same own at =
          let e : Finished frame.outputs ≡ Claimed places = sym (get_or-set_same marks (length rest) (Finished frame.outputs) Free (inner (length rest) own)) ∙ ap (mark_at (set marks (length rest) (Finished frame.outputs))) (sym same) ∙ at in cc

claimed_at : (m : Mark) → phase_of m ≡ IsClaimed → (places : Places) × (m ≡ Claimed places)
claimed_at Free is = absurd (cc)
claimed_at (Claimed places) is = (places, refl)
claimed_at (Finished outs) is = absurd (cc)
claimed_at (Failed code) is = absurd (cc)

-- where no frame waits, no node is claimed
pub none_claimed : (marks : List Mark) (held : List Held) → HoldClaimed marks held → length held ≡ 0 → (n : ℕ) → phase marks n ≢ IsClaimed
none_claimed marks held holds none n is =
    let c = claimed_at (mark_at marks n) is in
    let w = holds.waits n c.0 c.1 in
    let i = inside_of held n w.0 w.1 in
    absurd (omega arith)

-- what is held is the frame that waits
pub waits_in : (held : Held) (frame : FrameView) → frame_in held ≡ Some frame → held ≡ Waits frame
waits_in Nothing frame is = absurd (cc)
waits_in (Waits own) frame is = let same : own ≡ frame = cc in ap Waits same
waits_in (Refuses refusal) frame is = absurd (cc)

pub none_in : (held : Held) → frame_in held ≡ None → (frame : FrameView) → held ≢ Waits frame
none_in held none frame is = let e : None ≡ Some frame = sym none ∙ ap frame_in is in absurd (cc)

pub in_none : (held : Held) → ((frame : FrameView) → held ≢ Waits frame) → frame_in held ≡ None
in_none Nothing none = refl
in_none (Waits frame) none = absurd (none frame refl)
in_none (Refuses refusal) none = refl

-- ---- where no frame waits

module _ (rest : List Held) (last : Held) (none : NoneWaits (rest ++ last ∷ [])) where
  pub last_not : (frame : FrameView) → last ≢ Waits frame
  last_not frame is = none (length rest) frame (last_at rest last ∙ is)

  pub rest_none : NoneWaits rest
  rest_none n frame is = none n frame (get_or_append_left rest (last ∷ []) Nothing n (inside_of rest n frame is) ∙ is)
