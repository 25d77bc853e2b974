-- What the calls of a job do to its view, stage by stage.
use Rattle.std.proofs.Common.{◌≡◌, ◌≢◌, ℕ, ◌+◌, ◌<◌, Bool, true, false, ℤ, List, [], slice_get, Option, Some, None, is_some, unwrap_or, Result, refl, sym, ap, ◌∙◌, subst, arith}
use Rattle.std.proofs.lemmas.Bool.{le-ltb, lt-ltb}
use Rattle.kernel_gate.specs.Value.{FrameView, Places}
use Rattle.level_schedule.specs.declared.scheduling.LevelSchedule.{LevelSchedule}
use Rattle.nested_jobs.specs.Marks as mark
use Rattle.nested_jobs.specs.Marks.{Mark, Free, Busy, Open, Done}
use Rattle.nested_jobs.specs.Rules.{Task, Work, Call}
use Rattle.nested_jobs.specs.Steps.{is_settled}
use Rattle.pisdf_model.specs.declared.actor.Body.{Body}
use Rattle.pisdf_model.specs.declared.actor.Body.TheVariants.{Kernel, Config, Child, ConfigChild}
use Rattle.pisdf_model.specs.declared.graph.Graph.{Graph}
use Rattle.pisdf_model.specs.declared.graph.Graphs.{Graphs}
use Rattle.sdf_level.specs.declared.node.Node.{Node}
use Rattle.pisdf_meaning.specs.Configuring.{Configuration, configurations}
use Rattle.pisdf_meaning.specs.declared.firing.Configured.{Configured}
use Rattle.pisdf_meaning.specs.declared.firing.Firing.{Firing}
use Rattle.pisdf_meaning.specs.declared.refusal.Refusal.{Refusal}
use Rattle.pisdf_meaning.specs.Endings.{End}
use Rattle.job_rules.specs.Words as words
use Rattle.job_rules.specs.Words.{Answer, Schedules, Refuses, answer_of}
use Rattle.job_rules.specs.Items.{compile_number, compile_rule, config_task, first_refusal}
use Rattle.job_preparing.specs.Handing.{EndSuits, IsFrameFor, IsNothingLent, answers, end_of, lent_at, mark_at}
use Rattle.job_preparing.specs.View as preparing
use Rattle.job_preparing.specs.View.{ConfiguringView}
use Rattle.job_preparing.specs.declared.handing.JobGiven.{JobGiven}
use Rattle.graph_firing.specs.Nodes.Calls as calls
use Rattle.graph_firing.specs.Nodes.View as running
use Rattle.graph_firing.specs.Nodes.View.{RunningView}
use Rattle.graph_firing.specs.View.{IsOfferedCall, IsOfferedWork, IsQuiet, OpenView, compilation_of, outcome_in, task}
use Rattle.graph_firing.specs.Calls.{IsHanded, IsHandedFor, with_item, with_mark}
use Rattle.graph_firing.specs.Offers.{IsPick}
use Rattle.graph_firing.specs.Invariants.{KeepsWith, node_lent, view_with}
use Rattle.graph_firing.specs.Rooms.{is_node}
use Rattle.graph_firing.specs.Running.{RunsFor}
use Rattle.graph_firing.specs.Stages.{IsFirstCallWaiting, IsFirstNode, IsFirstWaiting}
use Rattle.graph_firing.specs.declared.handed.Handed.TheVariants.{Configure}
use Rattle.graph_firing.specs.declared.offer.Offer.{Offer}
use Rattle.graph_firing.specs.declared.stage.Stage.{Stage}
use Rattle.graph_firing.specs.declared.stage.Stage.TheVariants.{Waiting, Compiling, Refused, Nodes}
use Rattle.graph_firing.proofs.Cut.{read_after, read_before}
use Rattle.graph_firing.proofs.Early as early
use Rattle.graph_firing.proofs.Ending as ending
use Rattle.graph_firing.proofs.NodeEnds as nodes
use Rattle.graph_firing.proofs.Offered as offered
use Rattle.graph_firing.proofs.Picks as picks
use Rattle.graph_firing.proofs.Steps as steps

-- ---- configuration actors copy nothing

config_no_copy : (graphs : List Graph) (g : Graph) (firing : Firing) (node : Node) (read : List (List ℤ)) (lens : List ℕ) (one : Configuration) (body : Body) → config_task graphs g firing one body ≡ Some (Work (words.Copies node read lens)) → ⊥
config_no_copy graphs g firing node read lens one (Kernel kernel args ins outs) e = cc
config_no_copy graphs g firing node read lens one (Child place args) e = cc
config_no_copy graphs g firing node read lens one (Config kernel args ins outs sets) e = cc
config_no_copy graphs g firing node read lens one (ConfigChild place args sets) e = cc

no_copy : (graphs : List Graph) (g : Graph) (firing : Firing) (node : Node) (read : List (List ℤ)) (lens : List ℕ) (o : Option Configuration) → preparing.task_of graphs g firing o ≡ Some (Work (words.Copies node read lens)) → ⊥
no_copy graphs g firing node read lens None e = cc
no_copy graphs g firing node read lens (Some one) e = config_no_copy graphs g firing node read lens one one.body e

-- ---- picks, in a stage that is told by an equation

module _ (c : ConfiguringView) (workers : ℕ) (stage : Stage) (keeps : KeepsWith c workers stage) (v : OpenView) (is : view_with c workers stage ≡ v) where
  -- at another stage the same is kept
  at_stage : (other : Stage) → stage ≡ other → KeepsWith c workers other
  at_stage other same = subst (KeepsWith c workers) same keeps

  view_at : (other : Stage) → stage ≡ other → view_with c workers other ≡ v
  view_at other same = ap (view_with c workers) (sym same) ∙ is

  pub pick_waiting : (worker : ℕ) (o : Option Offer) → stage ≡ Waiting → IsFirstWaiting c o → IsPick (IsOfferedWork v) v worker o
  pick_waiting worker o same first =
      let P : OpenView → Type 0 = λ x. IsPick (IsOfferedWork x) x worker o in
      subst P (view_at Waiting same) (picks.waiting_pick c workers worker keeps.marks_many o first)

  pub call_waiting : (worker : ℕ) (o : Option Offer) → stage ≡ Waiting → IsFirstCallWaiting c o → IsPick (IsOfferedCall v) v worker o
  call_waiting worker o same first =
      let P : OpenView → Type 0 = λ x. IsPick (IsOfferedCall x) x worker o in
      subst P (view_at Waiting same) (picks.waiting_call c workers worker keeps.marks_many o first)

  pub pick_nodes : (worker : ℕ) (r : RunningView) (base : ℕ) (o : Option Offer) → stage ≡ Nodes r → base ≡ compile_number (preparing.graph_in c) + 1 → IsFirstNode (running.IsOfferedWork r) r base worker o → IsPick (IsOfferedWork v) v worker o
  pick_nodes worker r base o same at first =
      let P : OpenView → Type 0 = λ x. IsPick (IsOfferedWork x) x worker o in
      let B : ℕ → Type 0 = λ b. IsFirstNode (running.IsOfferedWork r) r b worker o in
      subst P (view_at (Nodes r) same) (picks.nodes_pick c workers worker r keeps.marks_many (at_stage (Nodes r) same).stage_fits o (subst B at first))

  pub call_nodes : (worker : ℕ) (r : RunningView) (base : ℕ) (o : Option Offer) → stage ≡ Nodes r → base ≡ compile_number (preparing.graph_in c) + 1 → IsFirstNode (running.IsOfferedCall r) r base worker o → IsPick (IsOfferedCall v) v worker o
  call_nodes worker r base o same at first =
      let P : OpenView → Type 0 = λ x. IsPick (IsOfferedCall x) x worker o in
      let B : ℕ → Type 0 = λ b. IsFirstNode (running.IsOfferedCall r) r b worker o in
      subst P (view_at (Nodes r) same) (picks.nodes_call c workers worker r keeps.marks_many (at_stage (Nodes r) same).stage_fits o (subst B at first))

  -- once the compilation is claimed, and as long as no nodes are there, nothing is offered
  none_compiling : stage ≡ Compiling → (i : ℕ) → mark_at v.marks i ≡ Free → (t : Task Firing words.Work) → task v i ≡ Some t → ⊥
  none_compiling same =
      let kept = at_stage Compiling same in
      let P : OpenView → Type 0 = λ x. (i : ℕ) → mark_at x.marks i ≡ Free → (t : Task Firing words.Work) → task x i ≡ Some t → ⊥ in
      subst P (view_at Compiling same) (offered.none_offered c workers Compiling keeps.marks_many kept.stage_fits refl (λ free. cc))

  none_refused : (refusal : Refusal) → stage ≡ Refused refusal → (i : ℕ) → mark_at v.marks i ≡ Free → (t : Task Firing words.Work) → task v i ≡ Some t → ⊥
  none_refused refusal same =
      let kept = at_stage (Refused refusal) same in
      let P : OpenView → Type 0 = λ x. (i : ℕ) → mark_at x.marks i ≡ Free → (t : Task Firing words.Work) → task x i ≡ Some t → ⊥ in
      subst P (view_at (Refused refusal) same) (offered.none_offered c workers (Refused refusal) keeps.marks_many kept.stage_fits refl (λ free. cc))

  pub no_work_compiling : stage ≡ Compiling → (i : ℕ) → IsOfferedWork v i → ⊥
  no_work_compiling same i is_offered = none_compiling same i is_offered.free _ is_offered.task_is

  pub no_call_compiling : stage ≡ Compiling → (i : ℕ) → IsOfferedCall v i → ⊥
  no_call_compiling same i is_offered = none_compiling same i is_offered.free _ is_offered.task_is

  pub no_work_refused : (refusal : Refusal) → stage ≡ Refused refusal → (i : ℕ) → IsOfferedWork v i → ⊥
  no_work_refused refusal same i is_offered = none_refused refusal same i is_offered.free _ is_offered.task_is

  pub no_call_refused : (refusal : Refusal) → stage ≡ Refused refusal → (i : ℕ) → IsOfferedCall v i → ⊥
  no_call_refused refusal same i is_offered = none_refused refusal same i is_offered.free _ is_offered.task_is

  -- ---- quiet

  quiet_at : (other : Stage) → stage ≡ other → IsQuiet v → IsQuiet (view_with c workers other)
  quiet_at other same quiet = subst IsQuiet (sym (view_at other same)) quiet

  at_quiet : (other : Stage) → stage ≡ other → IsQuiet (view_with c workers other) → IsQuiet v
  at_quiet other same quiet = subst IsQuiet (view_at other same) quiet

  answered_is : (m : Mark Firing Answer) → is_some (mark.answer_of m) ≡ true → (a : Answer) × (m ≡ Done a)
  answered_is Free is_so = absurd (cc)
  answered_is Busy is_so = absurd (cc)
  answered_is (Open job) is_so = absurd (cc)
  answered_is (Done answer) is_so = (answer, refl)

  unready_settled : (o : Option (List Configured)) → (is_some o ≡ true → ⊥) → is_settled {A = Answer} Free (compile_rule c.firing o) ≡ true
  unready_settled None never = refl
  unready_settled (Some left) never = absurd (never refl)

  settled_unready : (o : Option (List Configured)) → is_settled {A = Answer} Free (compile_rule c.firing o) ≡ true → is_some o ≡ true → ⊥
  settled_unready None settled ready = cc
  settled_unready (Some left) settled ready = cc

  pub quiet_waiting : stage ≡ Waiting → preparing.IsSettled c → (preparing.IsReady c → ⊥) → IsQuiet v
  quiet_waiting same settled unready = at_quiet Waiting same
      (ending.quiet_here c workers Waiting (at_stage Waiting same) refl (λ i below. answered_is (mark_at c.marks i) (settled.each i below)) (unready_settled (preparing.left_if_ready c) unready))

  pub waiting_settled : stage ≡ Waiting → IsQuiet v → preparing.IsSettled c
  waiting_settled same quiet = record {
    each = λ i below.
        let done = ending.actor_settled c workers Waiting (at_stage Waiting same) refl (quiet_at Waiting same quiet) i below in
        ap (λ m. is_some (mark.answer_of m)) done.1;
  }

  pub waiting_unready : stage ≡ Waiting → IsQuiet v → preparing.IsReady c → ⊥
  waiting_unready same quiet ready = settled_unready (preparing.left_if_ready c) (ending.compile_settled c workers Waiting (at_stage Waiting same) refl (quiet_at Waiting same quiet)) ready

  pub compiling_unquiet : stage ≡ Compiling → IsQuiet v → ⊥
  compiling_unquiet same quiet = let settled = ending.compile_settled c workers Compiling (at_stage Compiling same) refl (quiet_at Compiling same quiet) in cc

  pub refused_quiet : (refusal : Refusal) → stage ≡ Refused refusal → IsQuiet v
  refused_quiet refusal same =
      let kept = at_stage (Refused refusal) same in
      at_quiet (Refused refusal) same (ending.quiet_here c workers (Refused refusal) kept refl (offered.all_done c kept.stage_fits) refl)

  pub nodes_are_quiet : (r : RunningView) → stage ≡ Nodes r → running.is_quiet r ≡ true → IsQuiet v
  nodes_are_quiet r same quiet = at_quiet (Nodes r) same (nodes.quiet_nodes c workers r (at_stage (Nodes r) same) quiet)

  pub quiet_nodes : (r : RunningView) → stage ≡ Nodes r → IsQuiet v → running.is_quiet r ≡ true
  quiet_nodes r same quiet = nodes.nodes_quiet c workers r (at_stage (Nodes r) same) (quiet_at (Nodes r) same quiet)

  -- ---- how it ends

  pub waiting_refused : stage ≡ Waiting → IsQuiet v → (r : Refusal) × (first_refusal (answers c.marks) 0 (compile_number (preparing.graph_in c)) ≡ Some r)
  waiting_refused same quiet =
      let kept = at_stage Waiting same in
      ending.actor_refused c workers Waiting kept (ending.actor_settled c workers Waiting kept refl (quiet_at Waiting same quiet)) (waiting_unready same quiet)

  pub waiting_outcome : (r : Refusal) → stage ≡ Waiting → first_refusal (answers c.marks) 0 (compile_number (preparing.graph_in c)) ≡ Some r → Refuses r ≡ outcome_in v
  waiting_outcome r same refused = sym (ending.early_outcome c workers Waiting (at_stage Waiting same) refl r refused) ∙ ap outcome_in (view_at Waiting same)

  pub refused_outcome : (r : Refusal) → stage ≡ Refused r → Refuses r ≡ outcome_in v
  refused_outcome r same =
      let kept = at_stage (Refused r) same in
      sym (ending.compile_outcome c workers (Refused r) kept refl r kept.stage_fits refl) ∙ ap outcome_in (view_at (Refused r) same)

  pub nodes_outcome : (r : RunningView) (end : End) → stage ≡ Nodes r → end ≡ running.outcome_of r → answer_of end ≡ outcome_in v
  nodes_outcome r end same ends = ap answer_of ends ∙ sym (nodes.outcome_is c workers r (at_stage (Nodes r) same)) ∙ ap outcome_in (view_at (Nodes r) same)

  -- what a job with nodes gives up
  pub ready_nodes : (r : RunningView) → stage ≡ Nodes r → preparing.IsReady c
  ready_nodes r same = let runs : RunsFor c workers r = (at_stage (Nodes r) same).stage_fits in ap is_some runs.left_is

  pub left_nodes : (r : RunningView) → stage ≡ Nodes r → preparing.left_by c ≡ r.prepared.left
  left_nodes r same = let runs : RunsFor c workers r = (at_stage (Nodes r) same).stage_fits in ap (λ o. unwrap_or o []) runs.left_is

  pub nodes_suits : (r : RunningView) (end : Result JobGiven Refusal) → stage ≡ Nodes r → EndSuits r.graphs.graphs r.firing (end_of end) → EndSuits v.graphs.graphs v.firing (end_of end)
  nodes_suits r end same suits =
      let runs : RunsFor c workers r = (at_stage (Nodes r) same).stage_fits in
      let P : Graphs → Type 0 = λ graphs. EndSuits graphs.graphs r.firing (end_of end) in
      let Q : Firing → Type 0 = λ firing. EndSuits c.graphs.graphs firing (end_of end) in
      let R : OpenView → Type 0 = λ x. EndSuits x.graphs.graphs x.firing (end_of end) in
      subst R is (subst Q runs.firing_is (subst P runs.graphs_are suits))

  -- nothing is lent to nodes, where nothing is at all
  pub unlent_nodes : IsNothingLent v.lent → IsNothingLent (node_lent stage)
  unlent_nodes nothing = record {
    each = λ n.
        let k = compile_number (preparing.graph_in c) in
        sym (read_after c.lent None (node_lent stage) None (k + 1) n (let long = keeps.lent_many in omega arith)) ∙ ap (λ (x : OpenView). lent_at x.lent (k + 1 + n)) is ∙ nothing.each (k + 1 + n);
  }

  -- ---- configuration actors

  module _ (i : ℕ) (below : i < compile_number (preparing.graph_in c)) where
    pub actor_work : IsOfferedWork v i → preparing.IsOfferedWork c i
    actor_work work = early.work_before c workers stage keeps.marks_many i below (let P : OpenView → Type 0 = λ x. IsOfferedWork x i in subst P (sym is) work)

    pub actor_call : IsOfferedCall v i → preparing.IsOfferedCall c i
    actor_call call = early.call_before c workers stage keeps.marks_many i below (let P : OpenView → Type 0 = λ x. IsOfferedCall x i in subst P (sym is) call)

    pub actor_task : task v i ≡ preparing.task c i
    actor_task = ap (λ (x : OpenView). task x i) (sym is) ∙ early.task_before c workers stage keeps.marks_many i below

    pub not_node : is_node v i ≡ false
    not_node = le-ltb (compilation_of v) i (let e : compilation_of v ≡ compile_number (preparing.graph_in c) = ap compilation_of (sym is) in omega arith)

    pub actor_mark : mark_at v.marks i ≡ mark_at c.marks i
    actor_mark = ap (λ (x : OpenView). mark_at x.marks i) (sym is) ∙ early.mark_before c workers stage keeps.marks_many i below

    pub actor_lent : lent_at v.lent i ≡ lent_at c.lent i
    actor_lent = ap (λ (x : OpenView). lent_at x.lent i) (sym is) ∙ read_before c.lent None (node_lent stage) None i (let long = keeps.lent_many in omega arith)

    fires_for : (t : Option (Task Firing words.Work)) (frame : FrameView) → IsFrameFor t frame → ((node : Node) (read : List (List ℤ)) (lens : List ℕ) → t ≡ Some (Work (words.Copies node read lens)) → ⊥) → IsHandedFor true t (Configure frame)
    fires_for None frame fits never = absurd fits
    fires_for (Some (Call job)) frame fits never = absurd fits
    fires_for (Some (Work (words.Fires spot asked))) frame fits never = fits
    fires_for (Some (Work (words.Copies node read lens))) frame fits never = absurd (never node read lens refl)
    fires_for (Some (Work (words.Compiles firing left))) frame fits never = absurd fits

    pub actor_handed : (frame : FrameView) → IsFrameFor (preparing.task c i) frame → IsHanded v i (Configure frame)
    actor_handed frame fits =
        let P : OpenView → Type 0 = λ x. IsHanded x i (Configure frame) in
        let Q : Bool → Type 0 = λ b. IsHandedFor b (task (view_with c workers stage) i) (Configure frame) in
        let R : Option (Task Firing words.Work) → Type 0 = λ t. IsHandedFor true t (Configure frame) in
        let own = fires_for (preparing.task c i) frame fits (λ node read lens e. no_copy c.graphs.graphs (preparing.graph_in c) c.firing node read lens (slice_get (configurations (preparing.graph_in c)) i) e) in
        subst P is (subst Q (sym (lt-ltb i (compile_number (preparing.graph_in c)) below)) (subst R (sym (early.task_before c workers stage keeps.marks_many i below)) own))

    -- a step of this actor
    module _ (new : ConfiguringView) (unfinished : mark.answer_of (mark_at c.marks i) ≡ None) (m : Mark Firing Answer) (none : (s : LevelSchedule) → m ≢ Done (Schedules s)) where
      pub step_keeps : (p : Option Places) → new ≡ steps.with_actor c workers stage keeps i below m p → KeepsWith new workers stage
      step_keeps p same = let P : ConfiguringView → Type 0 = λ x. KeepsWith x workers stage in subst P (sym same) (steps.keeps_item c workers stage keeps i below unfinished m none p)

      pub step_keeps_mark : new ≡ steps.with_actor_mark c workers stage keeps i below m → KeepsWith new workers stage
      step_keeps_mark same = let P : ConfiguringView → Type 0 = λ x. KeepsWith x workers stage in subst P (sym same) (steps.keeps_mark c workers stage keeps i below unfinished m none)

    pub step_view : (new : ConfiguringView) (m : Mark Firing Answer) (p : Option Places) → new ≡ steps.with_actor c workers stage keeps i below m p → view_with new workers stage ≡ with_item v i m p
    step_view new m p same = ap (λ x. view_with x workers stage) same ∙ steps.item_before c workers stage keeps i below m p ∙ ap (λ (x : OpenView). with_item x i m p) is

    pub step_view_mark : (new : ConfiguringView) (m : Mark Firing Answer) → new ≡ steps.with_actor_mark c workers stage keeps i below m → view_with new workers stage ≡ with_mark v i m
    step_view_mark new m same = ap (λ x. view_with x workers stage) same ∙ steps.mark_before c workers stage keeps i below m ∙ ap (λ (x : OpenView). with_mark x i m) is
