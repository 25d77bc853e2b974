-- Steps of nodes by the numbers of items.
use Rattle.std.proofs.Common.{◌≡◌, ◌≢◌, ◌⊎◌, ⊎_elim, inl, inr, ℕ, true, ◌+◌, ◌-◌, ◌≤◌, List, Option, Some, None, IfSome, Result, Ok, Err, IfOk, OnErr, sym, ap, ◌∙◌, subst, arith}
use Rattle.std.proofs.lemmas.Bool.{lt-ltb}
use Rattle.std.specs.declared.alloc.AllocError.{AllocError}
use Rattle.kernel_gate.specs.Value.{FrameView, Places}
use Rattle.kernel_gate.specs.declared.fault.KernelFault.{KernelFault}
use Rattle.kernel_gate.specs.declared.room.RoomSize.{RoomSize}
use Rattle.nested_jobs.specs.Marks.{Busy, Open, Done}
use Rattle.nested_jobs.specs.Rules.{Call}
use Rattle.param_resolver.specs.EarlyView.{EarlyView}
use Rattle.pisdf_meaning.specs.Configuring.{early_in}
use Rattle.pisdf_meaning.specs.declared.firing.Configured.{Configured}
use Rattle.pisdf_meaning.specs.declared.firing.Firing.{Firing}
use Rattle.pisdf_meaning.specs.declared.refusal.Refusal.{Refusal}
use Rattle.job_rules.specs.Words.{answer_of}
use Rattle.job_rules.specs.Items.{compile_number, compile_rule}
use Rattle.job_preparing.specs.Handing.{EndSuits, answer_with, end_of, lent_at, mark_at}
use Rattle.job_preparing.specs.View as preparing
use Rattle.job_preparing.specs.View.{ConfiguringView, HasInherited}
use Rattle.job_preparing.specs.declared.handing.JobGiven.{JobGiven}
use Rattle.graph_firing.specs.View.{IsOfferedCall, IsOfferedWork, OpenView, compilation_of, task}
use Rattle.graph_firing.specs.Calls.{IsHanded, IsSoundFor, frame_of, with_item, with_mark}
use Rattle.graph_firing.specs.Invariants.{KeepsWith, compile_mark, node_lent, view_with}
use Rattle.graph_firing.specs.Stages.{CallsNode, ClaimsNode, FinishesCall, FinishesNode, HasNodes, HoldsFrames, KnowsCalled, MayAnswer, MayCall, MayClaim, MayFinish, NodesGoOn}
use Rattle.graph_firing.specs.Rooms.{HasRoomFor, is_node}
use Rattle.graph_firing.specs.declared.handed.Handed.{Handed}
use Rattle.graph_firing.specs.declared.stage.Stage.{Stage}
use Rattle.graph_firing.specs.declared.stage.Stage.TheVariants.{Waiting, Compiling, Refused, Nodes}
use Rattle.graph_firing.proofs.Cut.{read_seam}
use Rattle.graph_firing.proofs.Early as early
use Rattle.graph_firing.proofs.NodeSteps as steps

-- the compilation is never open
never_open : (s : Stage) (d : Firing) → compile_mark s ≡ Open d → ⊥
never_open Waiting d e = cc
never_open Compiling d e = cc
never_open (Refused refusal) d e = cc
never_open (Nodes r) d e = cc

pub never_called : (firing d : Firing) (o : Option (List Configured)) → compile_rule firing o ≡ Some (Call d) → ⊥
never_called firing d None e = cc
never_called firing d (Some left) e = cc

module _ (c : ConfiguringView) (workers : ℕ) (stage : Stage) (keeps : KeepsWith c workers stage) (v : OpenView) (is : view_with c workers stage ≡ v) where
  abbrev own : OpenView
  own = view_with c workers stage

  abbrev k : ℕ
  k = compile_number (preparing.graph_in c)

  compilation_is : compilation_of v ≡ k
  compilation_is = ap compilation_of (sym is)

  -- an item with a frame, an item that is open, and one that calls a job, isn't the compilation
  pub lent_other : (item : ℕ) (p : Places) → lent_at v.lent item ≡ Some p → item ≢ compilation_of v
  lent_other item p lent same =
      let at : lent_at own.lent k ≡ None = read_seam c.lent None (node_lent stage) None k keeps.lent_many in
      let e : None ≡ Some p = sym at ∙ ap (lent_at own.lent) (sym (same ∙ compilation_is)) ∙ ap (λ (x : OpenView). lent_at x.lent item) is ∙ lent in
      cc

  pub open_other : (item : ℕ) (d : Firing) → mark_at v.marks item ≡ Open d → item ≢ compilation_of v
  open_other item d open_so same =
      never_open stage d (sym (early.mark_here c workers stage keeps.marks_many) ∙ ap (mark_at own.marks) (sym (same ∙ compilation_is)) ∙ ap (λ (x : OpenView). mark_at x.marks item) is ∙ open_so)

  pub call_other : (item : ℕ) → IsOfferedCall v item → item ≢ compilation_of v
  call_other item call same =
      never_called c.firing call.job _ (sym (early.task_here c workers stage keeps.marks_many) ∙ ap (task own) (sym (same ∙ compilation_is)) ∙ ap (λ (x : OpenView). task x item) is ∙ call.task_is)

  module _ (item count : ℕ) (counted : count ≡ compile_number (preparing.graph_in c)) (past : count ≤ item) (other : item ≢ compilation_of v) where
    abbrev n : ℕ
    n = item - count - 1

    at : item ≡ k + 1 + n
    at = let differs : item ≢ k = λ e. other (e ∙ sym compilation_is) in omega arith

    pub above : 1 ≤ item - count
    above = let e = at in let differs : item ≢ k = λ e. other (e ∙ sym compilation_is) in omega arith

    pub claim_ok : IsOfferedWork v item → HasNodes (MayClaim n) stage
    claim_ok work = let P : OpenView → Type 0 = λ x. IsOfferedWork x item in steps.may_claim c workers n item at stage keeps (subst P (sym is) work)

    -- it is a node, for whose frame the slot has a room
    pub node_is : is_node v item ≡ true
    node_is = lt-ltb (compilation_of v) item (let e = at in let d = compilation_is in omega arith)

    pub room_ok : IsOfferedWork v item → (slot : Option RoomSize) → HasRoomFor v.room slot → (room : RoomSize) × (slot ≡ Some room) × HasNodes (HoldsFrames room) stage
    room_ok work slot has = let P : OpenView → Type 0 = λ x. HasRoomFor x.room slot in steps.has_room c workers n item at stage (claim_ok work) slot (subst P (sym is) has)

    pub call_ok : IsOfferedCall v item → HasNodes (MayCall n) stage
    call_ok call = let P : OpenView → Type 0 = λ x. IsOfferedCall x item in steps.may_call c workers n item at stage keeps (subst P (sym is) call)

    pub known_ok : (known : Option EarlyView) → HasNodes (KnowsCalled n known) stage → IfSome known (λ early. (firing : Firing) → task v item ≡ Some (Call firing) → early ≡ early_in v.graphs.graphs firing)
    known_ok known has = let P : OpenView → Type 0 = λ x. IfSome known (λ early. (firing : Firing) → task x item ≡ Some (Call firing) → early ≡ early_in x.graphs.graphs firing) in subst P is (steps.knows c workers n item at known stage keeps has)

    pub finish_ok : (frame : FrameView) (sound : Type 0) → mark_at v.marks item ≡ Busy → lent_at v.lent item ≡ Some frame.places → IsSoundFor (task v item) sound → HasNodes (MayFinish n frame sound) stage
    finish_ok frame sound busy lent sound_so =
        let P : OpenView → Type 0 = λ x. mark_at x.marks item ≡ Busy in
        let Q : OpenView → Type 0 = λ x. lent_at x.lent item ≡ Some frame.places in
        let R : OpenView → Type 0 = λ x. IsSoundFor (task x item) sound in
        steps.may_finish c workers n item at frame sound stage keeps (subst P (sym is) busy) (subst Q (sym is) lent) (subst R (sym is) sound_so)

    pub answer_ok : (end : Result JobGiven Refusal) (d : Firing) → mark_at v.marks item ≡ Open d → EndSuits v.graphs.graphs d (end_of end) → HasNodes (MayAnswer n end) stage
    answer_ok end d open_so suits =
        let P : OpenView → Type 0 = λ x. mark_at x.marks item ≡ Open d in
        let Q : OpenView → Type 0 = λ x. EndSuits x.graphs.graphs d (end_of end) in
        steps.may_answer c workers n item at end stage keeps d (subst P (sym is) open_so) (subst Q (sym is) suits)

    module _ (new : Stage) where
      pub claimed_keeps : (handed : Handed) → NodesGoOn (ClaimsNode n handed) stage new → KeepsWith c workers new
      claimed_keeps handed went = (steps.claimed c workers n item at handed stage new keeps went).0.keeps

      pub claimed_view : (handed : Handed) → NodesGoOn (ClaimsNode n handed) stage new → view_with c workers new ≡ with_item v item Busy (Some (frame_of handed).places)
      claimed_view handed went = (steps.claimed c workers n item at handed stage new keeps went).0.view_is ∙ ap (λ (x : OpenView). with_item x item Busy (Some (frame_of handed).places)) is

      pub claimed_handed : (handed : Handed) → NodesGoOn (ClaimsNode n handed) stage new → IsHanded v item handed
      claimed_handed handed went = let P : OpenView → Type 0 = λ x. IsHanded x item handed in subst P is (steps.claimed c workers n item at handed stage new keeps went).1

      pub finished_keeps : (frame : FrameView) (answer : Result (Unit {0}) KernelFault) → NodesGoOn (FinishesNode n frame answer) stage new → KeepsWith c workers new
      finished_keeps frame answer went = (steps.finished c workers n item at frame answer stage new keeps went).keeps

      pub finished_view : (frame : FrameView) (answer : Result (Unit {0}) KernelFault) → NodesGoOn (FinishesNode n frame answer) stage new → view_with c workers new ≡ with_item v item (Done (answer_with (task v item) frame answer)) None
      finished_view frame answer went =
          (steps.finished c workers n item at frame answer stage new keeps went).view_is ∙ ap (λ (x : OpenView). with_item x item (Done (answer_with (task x item) frame answer)) None) is

      pub answered_keeps : (end : Result JobGiven Refusal) → NodesGoOn (FinishesCall n end) stage new → KeepsWith c workers new
      answered_keeps end went = (steps.answered c workers n item at end stage new keeps went).keeps

      pub answered_view : (end : Result JobGiven Refusal) → NodesGoOn (FinishesCall n end) stage new → view_with c workers new ≡ with_mark v item (Done (answer_of (end_of end)))
      answered_view end went = (steps.answered c workers n item at end stage new keeps went).view_is ∙ ap (λ (x : OpenView). with_mark x item (Done (answer_of (end_of end)))) is

      pub called_keeps : (result : Result Firing AllocError) → NodesGoOn (CallsNode n result) stage new → KeepsWith c workers new
      called_keeps (Ok firing) went = (steps.opened c workers n item at firing stage new keeps went).0.keeps
      called_keeps (Err error) went = ⊎_elim (λ same. subst (KeepsWith c workers) (sym same) keeps) (λ (marked : steps.MarkedSo c workers n item at stage new Busy). marked.keeps) (steps.unopened c workers n item at error stage new keeps went)

      pub called_firing : (result : Result Firing AllocError) → NodesGoOn (CallsNode n result) stage new → IfOk result (λ firing. task v item ≡ Some (Call firing))
      called_firing (Ok firing) went = ap (λ (x : OpenView). task x item) (sym is) ∙ (steps.opened c workers n item at firing stage new keeps went).1
      called_firing (Err error) went = tt

      pub called_inherited : (result : Result Firing AllocError) → NodesGoOn (CallsNode n result) stage new → IfOk result (λ firing. HasInherited v.graphs.graphs firing)
      called_inherited (Ok firing) went = let P : OpenView → Type 0 = λ x. HasInherited x.graphs.graphs firing in subst P is (steps.opened c workers n item at firing stage new keeps went).2
      called_inherited (Err error) went = tt

      pub called_view : (result : Result Firing AllocError) → NodesGoOn (CallsNode n result) stage new → IfOk result (λ firing. view_with c workers new ≡ with_mark v item (Open firing))
      called_view (Ok firing) went = (steps.opened c workers n item at firing stage new keeps went).0.view_is ∙ ap (λ (x : OpenView). with_mark x item (Open firing)) is
      called_view (Err error) went = tt

      pub uncalled_view : (result : Result Firing AllocError) → NodesGoOn (CallsNode n result) stage new → OnErr result ((view_with c workers new ≡ v) ⊎ (view_with c workers new ≡ with_mark v item Busy))
      uncalled_view (Ok firing) went = tt
      uncalled_view (Err error) went = ⊎_elim (λ same. inl (ap (view_with c workers) same ∙ is)) (λ (marked : steps.MarkedSo c workers n item at stage new Busy). inr (marked.view_is ∙ ap (λ (x : OpenView). with_mark x item Busy) is)) (steps.unopened c workers n item at error stage new keeps went)
