-- Steps of nodes, as steps of their job.
use Rattle.std.proofs.Common.{◌≡◌, ℕ, ◌+◌, ◌<◌, ◌&&◌, nat_lt, ◌⊎◌, ⊎_elim, inl, inr, Bool, true, false, ℤ, List, length, Option, Some, None, IfSome, Result, Ok, Err, if◌then◌else◌, refl, sym, ap, ◌∙◌, subst, arith, ltb-true}
use Rattle.std.proofs.lemmas.Bool.{and_parts, le-ltb}
use Rattle.std.specs.declared.alloc.AllocError.{AllocError}
use Rattle.kernel_gate.specs.Value.{FrameView, Places}
use Rattle.kernel_gate.specs.declared.fault.KernelFault.{KernelFault}
use Rattle.kernel_gate.specs.declared.room.RoomSize.{RoomSize}
use Rattle.nested_jobs.specs.Marks.{Mark, Free, Busy, Open, Done}
use Rattle.nested_jobs.specs.Rules.{Task, Call}
use Rattle.pisdf_model.specs.declared.graph.Graph.{Graph}
use Rattle.pisdf_model.specs.declared.graph.Graphs.{Graphs}
use Rattle.sdf_level.specs.declared.node.Node.{Node}
use Rattle.sdf_level.specs.declared.node.Node.TheVariants as node
use Rattle.param_resolver.specs.EarlyView.{EarlyView}
use Rattle.pisdf_meaning.specs.Configuring.{early_in}
use Rattle.pisdf_meaning.specs.declared.firing.Firing.{Firing}
use Rattle.pisdf_meaning.specs.declared.refusal.Refusal.{Refusal}
use Rattle.job_flow.specs.Graphs.{node_at}
use Rattle.one_job.specs.View.{IsFiring}
use Rattle.job_rules.specs.Words as words
use Rattle.job_rules.specs.Words.{Answer, answer_of}
use Rattle.job_rules.specs.Items.{compile_number, edges_in, is_ready_by, node_task}
use Rattle.job_rules.proofs.Parts.{passed}
use Rattle.job_preparing.specs.Handing.{EndSuits, answer_with, end_of, lent_at, mark_at}
use Rattle.job_preparing.specs.View as preparing
use Rattle.job_preparing.specs.View.{ConfiguringView, HasInherited}
use Rattle.job_preparing.specs.declared.handing.JobGiven.{JobGiven}
use Rattle.graph_firing.specs.Nodes.View as running
use Rattle.graph_firing.specs.Nodes.View.{RunningView}
use Rattle.graph_firing.specs.View.{IsOfferedCall, IsOfferedWork, OpenView, task}
use Rattle.graph_firing.specs.Calls.{IsHanded, IsHandedFor, IsSoundFor, frame_of, with_item, with_mark}
use Rattle.graph_firing.specs.Invariants.{KeepsWith, node_lent, node_marks, view_with}
use Rattle.graph_firing.specs.Rooms.{HasRoomFor}
use Rattle.graph_firing.specs.Running.{RunsFor}
use Rattle.graph_firing.specs.Stages.{CallsNode, ClaimsNode, FinishesCall, FinishesNode, HasNodes, HoldsFrames, KnowsCalled, MayAnswer, MayCall, MayClaim, MayFinish, NodesGoOn, with_node, with_node_mark}
use Rattle.graph_firing.specs.declared.handed.Handed.{Handed}
use Rattle.graph_firing.specs.declared.stage.Stage.{Stage}
use Rattle.graph_firing.specs.declared.stage.Stage.TheVariants.{Waiting, Compiling, Refused, Nodes}
use Rattle.graph_firing.proofs.Cut.{read_after}
use Rattle.graph_firing.proofs.Early as early
use Rattle.graph_firing.proofs.NodeEnds.{many_is}
use Rattle.graph_firing.proofs.NodeRules as nodes
use Rattle.graph_firing.proofs.Offered as offered
use Rattle.graph_firing.proofs.Steps as steps
use Rattle.graph_firing.proofs.Steps.{stands_inside}

-- ---- nodes with tasks

pub task_inside : (r : RunningView) (n : ℕ) (t : Task Firing words.Work) → running.task r n ≡ Some t → n < length (running.nodes_of r)
task_inside r n t is =
    let g = running.graph_in r in
    let test : Bool = is_ready_by (edges_in r.graphs.graphs g r.firing r.prepared) (running.node_values_of r) n in
    let parts = passed (nat_lt n (length (running.nodes_of r)) && test) _ t is in
    ltb-true n (length (running.nodes_of r)) (and_parts (nat_lt n (length (running.nodes_of r))) test parts.test_is).0

-- a node that may be refused fires a kernel
sound_node : (graphs : List Graph) (g : Graph) (firing : Firing) (values : List ℤ) (sound : Type 0) (test : Bool) (nd : Node) (read : List (List ℤ)) (lens : List ℕ) →
    IsSoundFor (if test then node_task graphs g firing values nd read lens else None) sound → IsFiring nd ⊎ sound
sound_node graphs g firing values sound false nd read lens is = inr is
sound_node graphs g firing values sound true (node.Source s) read lens is = inr is
sound_node graphs g firing values sound true (node.Init l) read lens is = inr is
sound_node graphs g firing values sound true (node.Firing a k) read lens is = inl tt
sound_node graphs g firing values sound true (node.Broadcast l) read lens is = inr is
sound_node graphs g firing values sound true (node.Fork l i) read lens is = inr is
sound_node graphs g firing values sound true (node.Join l j) read lens is = inr is
sound_node graphs g firing values sound true (node.Round l) read lens is = inr is
sound_node graphs g firing values sound true (node.End l) read lens is = inr is
sound_node graphs g firing values sound true (node.Sink t) read lens is = inr is

-- ---- what nodes a job has

module _ (c : ConfiguringView) (workers n item : ℕ) (at : item ≡ compile_number (preparing.graph_in c) + 1 + n) where
  abbrev k : ℕ
  k = compile_number (preparing.graph_in c)

  abbrev v : Stage → OpenView
  v stage = view_with c workers stage

  pub may_claim : (stage : Stage) → KeepsWith c workers stage → IsOfferedWork (v stage) item → HasNodes (MayClaim n) stage
  may_claim Waiting keeps is = offered.no_node c workers Waiting keeps.marks_many refl n _ (ap (task (v Waiting)) (sym at) ∙ is.task_is)
  may_claim Compiling keeps is = offered.no_node c workers Compiling keeps.marks_many refl n _ (ap (task (v Compiling)) (sym at) ∙ is.task_is)
  may_claim (Refused refusal) keeps is = offered.no_node c workers (Refused refusal) keeps.marks_many refl n _ (ap (task (v (Refused refusal))) (sym at) ∙ is.task_is)
  may_claim (Nodes r) keeps is =
      let own = nodes.node_of_work c workers r keeps.marks_many keeps.stage_fits n (let P : ℕ → Type 0 = λ i. IsOfferedWork (v (Nodes r)) i in subst P at is) in
      record { inside = task_inside r n _ own.task_is; offered = own }

  pub may_call : (stage : Stage) → KeepsWith c workers stage → IsOfferedCall (v stage) item → HasNodes (MayCall n) stage
  may_call Waiting keeps is = offered.no_node c workers Waiting keeps.marks_many refl n _ (ap (task (v Waiting)) (sym at) ∙ is.task_is)
  may_call Compiling keeps is = offered.no_node c workers Compiling keeps.marks_many refl n _ (ap (task (v Compiling)) (sym at) ∙ is.task_is)
  may_call (Refused refusal) keeps is = offered.no_node c workers (Refused refusal) keeps.marks_many refl n _ (ap (task (v (Refused refusal))) (sym at) ∙ is.task_is)
  may_call (Nodes r) keeps is =
      let own = nodes.node_of_call c workers r keeps.marks_many keeps.stage_fits n (let P : ℕ → Type 0 = λ i. IsOfferedCall (v (Nodes r)) i in subst P at is) in
      record { inside = task_inside r n _ own.task_is; offered = own }

  -- a node that may be claimed has a room, wherever the nodes' job has one
  pub has_room : (stage : Stage) → HasNodes (MayClaim n) stage → (slot : Option RoomSize) → HasRoomFor (v stage).room slot → (room : RoomSize) × (slot ≡ Some room) × HasNodes (HoldsFrames room) stage
  has_room Waiting may slot has = absurd may
  has_room Compiling may slot has = absurd may
  has_room (Refused refusal) may slot has = absurd may
  has_room (Nodes r) may slot has = has r.room refl

  mark_of_item : (stage : Stage) → KeepsWith c workers stage → mark_at (v stage).marks item ≡ mark_at (node_marks stage) n
  mark_of_item stage keeps = ap (mark_at (v stage).marks) at ∙ early.mark_after c workers stage keeps.marks_many n

  lent_of_item : (stage : Stage) → KeepsWith c workers stage → lent_at (v stage).lent item ≡ lent_at (node_lent stage) n
  lent_of_item stage keeps = ap (lent_at (v stage).lent) at ∙ read_after c.lent None (node_lent stage) None (k + 1) n (let long = keeps.lent_many in omega arith)

  node_inside : (r : RunningView) → KeepsWith c workers (Nodes r) → (mark_at r.marks n ≡ Free → ⊥) → n < length (running.nodes_of r)
  node_inside r keeps claimed =
      let inside = stands_inside r.marks n Free claimed in
      let runs : RunsFor c workers r = keeps.stage_fits in
      let long = runs.marks_many in
      let many = many_is c workers r keeps in
      omega arith

  pub may_finish : (frame : FrameView) (sound : Type 0) (stage : Stage) → KeepsWith c workers stage → mark_at (v stage).marks item ≡ Busy → lent_at (v stage).lent item ≡ Some frame.places → IsSoundFor (task (v stage) item) sound → HasNodes (MayFinish n frame sound) stage
  may_finish frame sound Waiting keeps busy lent is = let e : Free ≡ Busy = sym (mark_of_item Waiting keeps) ∙ busy in cc
  may_finish frame sound Compiling keeps busy lent is = let e : Free ≡ Busy = sym (mark_of_item Compiling keeps) ∙ busy in cc
  may_finish frame sound (Refused refusal) keeps busy lent is = let e : Free ≡ Busy = sym (mark_of_item (Refused refusal) keeps) ∙ busy in cc
  may_finish frame sound (Nodes r) keeps busy lent is =
      let own : mark_at r.marks n ≡ Busy = sym (mark_of_item (Nodes r) keeps) ∙ busy in
      let P : Option (Task Firing words.Work) → Type 0 = λ t. IsSoundFor t sound in
      let same : task (v (Nodes r)) item ≡ running.task r n = ap (task (v (Nodes r))) at ∙ nodes.task_of_node c workers r keeps.marks_many keeps.stage_fits n in
      record {
        inside = node_inside r keeps (λ free. let e : Free ≡ Busy = sym free ∙ own in cc);
        busy = own;
        lent = sym (lent_of_item (Nodes r) keeps) ∙ lent;
        sound_so = sound_node r.graphs.graphs (running.graph_in r) r.firing _ sound _ (node_at (running.nodes_of r) n) _ _ (subst P same is);
      }

  pub may_answer : (end : Result JobGiven Refusal) (stage : Stage) → KeepsWith c workers stage → (d : Firing) → mark_at (v stage).marks item ≡ Open d → EndSuits c.graphs.graphs d (end_of end) → HasNodes (MayAnswer n end) stage
  may_answer end Waiting keeps d is suits = let e : Free ≡ Open d = sym (mark_of_item Waiting keeps) ∙ is in cc
  may_answer end Compiling keeps d is suits = let e : Free ≡ Open d = sym (mark_of_item Compiling keeps) ∙ is in cc
  may_answer end (Refused refusal) keeps d is suits = let e : Free ≡ Open d = sym (mark_of_item (Refused refusal) keeps) ∙ is in cc
  may_answer end (Nodes r) keeps d is suits =
      let runs : RunsFor c workers r = keeps.stage_fits in
      let own : mark_at r.marks n ≡ Open d = sym (mark_of_item (Nodes r) keeps) ∙ is in
      let P : Graphs → Type 0 = λ graphs. EndSuits graphs.graphs d (end_of end) in
      record {
        inside = node_inside r keeps (λ free. let e : Free ≡ Open d = sym free ∙ own in cc);
        is_end = record { job = d; open_is = own; suits = subst P (sym runs.graphs_are) suits };
      }

  -- ---- what becomes of the job

  -- an item is marked so, and its frame is out there or not
  pub record GoesOn (old new : Stage) (m : Mark Firing Answer) (p : Option Places) : Type 0 where
    pub keeps : KeepsWith c workers new
    pub view_is : v new ≡ with_item (v old) item m p

  pub record MarkedSo (old new : Stage) (m : Mark Firing Answer) : Type 0 where
    pub keeps : KeepsWith c workers new
    pub view_is : v new ≡ with_mark (v old) item m

  goes_on : (r new : RunningView) (m : Mark Firing Answer) (p : Option Places) → KeepsWith c workers (Nodes r) → new ≡ with_node r n m p → GoesOn (Nodes r) (Nodes new) m p
  goes_on r new m p keeps is =
      let P : RunningView → Type 0 = λ x. GoesOn (Nodes r) (Nodes x) m p in
      subst P (sym is) record { keeps = steps.keeps_node c workers r keeps n m p; view_is = steps.item_after c workers r keeps n m p ∙ ap (λ i. with_item (v (Nodes r)) i m p) (sym at) }

  marked_so : (r new : RunningView) (m : Mark Firing Answer) → KeepsWith c workers (Nodes r) → new ≡ with_node_mark r n m → MarkedSo (Nodes r) (Nodes new) m
  marked_so r new m keeps is =
      let P : RunningView → Type 0 = λ x. MarkedSo (Nodes r) (Nodes x) m in
      subst P (sym is) record { keeps = steps.keeps_node_mark c workers r keeps n m; view_is = steps.mark_after c workers r keeps n m ∙ ap (λ i. with_mark (v (Nodes r)) i m) (sym at) }

  pub task_is : (r : RunningView) → KeepsWith c workers (Nodes r) → task (v (Nodes r)) item ≡ running.task r n
  task_is r keeps = ap (task (v (Nodes r))) at ∙ nodes.task_of_node c workers r keeps.marks_many keeps.stage_fits n

  pub claimed : (handed : Handed) (old new : Stage) → KeepsWith c workers old → NodesGoOn (ClaimsNode n handed) old new → GoesOn old new Busy (Some (frame_of handed).places) × IsHanded (v old) item handed
  claimed handed Waiting new keeps went = absurd went
  claimed handed Compiling new keeps went = absurd went
  claimed handed (Refused refusal) new keeps went = absurd went
  claimed handed (Nodes r) Waiting keeps went = absurd went
  claimed handed (Nodes r) Compiling keeps went = absurd went
  claimed handed (Nodes r) (Refused refusal) keeps went = absurd went
  claimed handed (Nodes r) (Nodes new) keeps went =
      let P : Option (Task Firing words.Work) → Type 0 = λ t. IsHandedFor false t handed in
      let Q : Bool → Type 0 = λ b. IsHandedFor b (task (v (Nodes r)) item) handed in
      (goes_on r new Busy (Some (frame_of handed).places) keeps went.new_is, subst Q (sym (le-ltb item k (omega arith))) (subst P (sym (task_is r keeps)) went.handed_so))

  pub finished : (frame : FrameView) (answer : Result (Unit {0}) KernelFault) (old new : Stage) → KeepsWith c workers old → NodesGoOn (FinishesNode n frame answer) old new → GoesOn old new (Done (answer_with (task (v old) item) frame answer)) None
  finished frame answer Waiting new keeps went = absurd went
  finished frame answer Compiling new keeps went = absurd went
  finished frame answer (Refused refusal) new keeps went = absurd went
  finished frame answer (Nodes r) Waiting keeps went = absurd went
  finished frame answer (Nodes r) Compiling keeps went = absurd went
  finished frame answer (Nodes r) (Refused refusal) keeps went = absurd went
  finished frame answer (Nodes r) (Nodes new) keeps went =
      goes_on r new (Done (answer_with (task (v (Nodes r)) item) frame answer)) None keeps (went ∙ ap (λ t. with_node r n (Done (answer_with t frame answer)) None) (sym (task_is r keeps)))

  pub answered : (end : Result JobGiven Refusal) (old new : Stage) → KeepsWith c workers old → NodesGoOn (FinishesCall n end) old new → MarkedSo old new (Done (answer_of (end_of end)))
  answered end Waiting new keeps went = absurd went
  answered end Compiling new keeps went = absurd went
  answered end (Refused refusal) new keeps went = absurd went
  answered end (Nodes r) Waiting keeps went = absurd went
  answered end (Nodes r) Compiling keeps went = absurd went
  answered end (Nodes r) (Refused refusal) keeps went = absurd went
  answered end (Nodes r) (Nodes new) keeps went = marked_so r new (Done (answer_of (end_of end))) keeps went

  -- a call that found its memory, and one that didn't
  pub opened : (firing : Firing) (old new : Stage) → KeepsWith c workers old → NodesGoOn (CallsNode n (Ok firing)) old new → MarkedSo old new (Open firing) × (task (v old) item ≡ Some (Call firing)) × HasInherited c.graphs.graphs firing
  opened firing Waiting new keeps went = absurd went
  opened firing Compiling new keeps went = absurd went
  opened firing (Refused refusal) new keeps went = absurd went
  opened firing (Nodes r) Waiting keeps went = absurd went
  opened firing (Nodes r) Compiling keeps went = absurd went
  opened firing (Nodes r) (Refused refusal) keeps went = absurd went
  opened firing (Nodes r) (Nodes new) keeps went =
      let runs : RunsFor c workers r = keeps.stage_fits in
      let P : Graphs → Type 0 = λ graphs. HasInherited graphs.graphs firing in
      (marked_so r new (Open firing) keeps went.2, task_is r keeps ∙ went.0, subst P runs.graphs_are went.1)

  -- what is known of the graph that a node asks to fire is so of the job that the item calls
  pub knows : (known : Option EarlyView) (stage : Stage) → KeepsWith c workers stage → HasNodes (KnowsCalled n known) stage → IfSome known (λ early. (firing : Firing) → task (v stage) item ≡ Some (Call firing) → early ≡ early_in (v stage).graphs.graphs firing)
  knows None stage keeps has = tt
  knows (Some early) Waiting keeps has = absurd has
  knows (Some early) Compiling keeps has = absurd has
  knows (Some early) (Refused refusal) keeps has = absurd has
  knows (Some early) (Nodes r) keeps has = λ firing is.
      let runs : RunsFor c workers r = keeps.stage_fits in
      has firing (sym (task_is r keeps) ∙ is) ∙ ap (λ (graphs : Graphs). early_in graphs.graphs firing) runs.graphs_are

  pub unopened : (error : AllocError) (old new : Stage) → KeepsWith c workers old → NodesGoOn (CallsNode n (Err error)) old new → (new ≡ old) ⊎ MarkedSo old new Busy
  unopened error Waiting new keeps went = absurd went
  unopened error Compiling new keeps went = absurd went
  unopened error (Refused refusal) new keeps went = absurd went
  unopened error (Nodes r) Waiting keeps went = absurd went
  unopened error (Nodes r) Compiling keeps went = absurd went
  unopened error (Nodes r) (Refused refusal) keeps went = absurd went
  unopened error (Nodes r) (Nodes new) keeps went = ⊎_elim (λ same. inl (ap Nodes same)) (λ marked. inr (marked_so r new Busy keeps marked)) went
