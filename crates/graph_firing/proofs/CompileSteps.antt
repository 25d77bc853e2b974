-- The claim and the finish of a job's compilation.
use Rattle.std.proofs.Common.{◌≡◌, ◌≢◌, ◌⊎◌, ⊎_elim, ℕ, zero, suc, ◌+◌, ◌<◌, ◌≤◌, List, [], ◌∷◌, ◌++◌, length, replicate, get_or, set, Option, Some, None, is_some, true, unwrap_or, Result, Ok, Err, IfOk, refl, sym, ap, ◌∙◌, subst, arith}
use Rattle.std.specs.Arc.{arc_value}
use Rattle.std.specs.declared.alloc.AllocError.{AllocError}
use Rattle.job_compiler.specs.Compilation.{Compilation}
use Rattle.kernel_gate.specs.Value.{Places}
use Rattle.nested_jobs.specs.Marks.{Mark, Free, Busy, Done}
use Rattle.pisdf_meaning.specs.declared.firing.Configured.{Configured}
use Rattle.pisdf_meaning.specs.declared.firing.Firing.{Firing}
use Rattle.pisdf_meaning.specs.declared.refusal.Refusal.{Refusal}
use Rattle.pisdf_model.specs.declared.graph.Graph.{Graph}
use Rattle.job_compiler.specs.declared.key.Key.{Key}
use Rattle.job_rules.specs.Doing as doing
use Rattle.job_rules.specs.Meant.{IsFit}
use Rattle.job_rules.specs.Words.{Answer, Schedules, Refuses}
use Rattle.job_rules.specs.Items.{compile_number}
use Rattle.job_preparing.specs.CompileTasks.{CompileView, IsEndOf}
use Rattle.job_preparing.specs.Levels.{SuitsKey}
use Rattle.job_preparing.specs.declared.levels.AtHand.{AtHand}
use Rattle.job_preparing.specs.Handing.{lent_at, mark_at}
use Rattle.job_preparing.specs.View as preparing
use Rattle.job_preparing.specs.View.{ConfiguringView}
use Rattle.job_preparing.specs.declared.compiling.CompileEnd.{CompileEnd}
use Rattle.job_preparing.specs.declared.compiling.CompileEnd.TheVariants as compiling
use Rattle.graph_firing.specs.Nodes.View as running
use Rattle.graph_firing.specs.View.{OpenView, compilation_of, free_in, free_one, key_in, left_by, left_if_ready}
use Rattle.graph_firing.specs.Calls.{FinishesCompilation, IsPlacedBy, compile_answer, nodes_by, with_mark}
use Rattle.graph_firing.specs.Invariants.{KeepsWith, StageFits, compile_mark, node_lent, node_marks, stage_cells, view_with}
use Rattle.graph_firing.specs.Stages.{GoesOnWith, HasNoNodes}
use Rattle.graph_firing.specs.declared.stage.Stage.{Stage}
use Rattle.graph_firing.specs.declared.stage.Stage.TheVariants.{Waiting, Compiling, Refused, Nodes}
use Rattle.graph_firing.proofs.Compiling.{schedules_so}
use Rattle.graph_firing.proofs.Cut.{put_seam, read_after, read_before, read_seam}
use Rattle.graph_firing.proofs.Early as early
use Rattle.graph_firing.proofs.Offered.{IsAfter, where_is}
use Rattle.graph_firing.proofs.Totals.{free_copies, total_append}

-- ---- what the compilation answers

pub compile_answers : (graphs : List Graph) (workers : ℕ) (firing : Firing) (left : List Configured) (end : CompileEnd) (a : Answer) → IsFit graphs firing → IsEndOf graphs workers firing left end → compile_answer firing end ≡ Some a → doing.IsCompiled graphs firing left a
compile_answers graphs workers firing left (compiling.Ready level) a fit is answer =
    let same : Schedules _ ≡ a = cc in
    subst (doing.IsCompiled graphs firing left) same (schedules_so graphs workers firing left (arc_value (arc_value level).made.compiled) (arc_value level).made.set (arc_value level).made.values is.made fit)
compile_answers graphs workers firing left (compiling.Refused cause) a fit is answer =
    let same : Refuses record { path = firing.path; cause = cause } ≡ a = cc in
    subst (doing.IsCompiled graphs firing left) same is
compile_answers graphs workers firing left compiling.Memory a fit is answer = absurd (cc)

-- a job that is refused has no cells
refused_unplaced : (firing : Firing) (end : CompileEnd) (refusal : Refusal) → compile_answer firing end ≡ Some (Refuses refusal) → IsPlacedBy end None
refused_unplaced firing (compiling.Ready level) refusal is = absurd (cc)
refused_unplaced firing (compiling.Refused cause) refusal is = refl
refused_unplaced firing compiling.Memory refusal is = refl

-- ---- lists of one element

pub read_copies : {T : Type 0} (m n : ℕ) (d : T) → get_or (replicate m d) n d ≡ d
read_copies zero n d = refl
read_copies (suc m) zero d = refl
read_copies (suc m) (suc n) d = read_copies m n d

module _ (c : ConfiguringView) (workers : ℕ) (stage : Stage) (keeps : KeepsWith c workers stage) (v : OpenView) (is : view_with c workers stage ≡ v) where
  abbrev k : ℕ
  k = compile_number (preparing.graph_in c)

  mark_is : compile_mark stage ≡ mark_at v.marks (compilation_of v)
  mark_is = sym (early.mark_here c workers stage keeps.marks_many) ∙ ap (λ (x : OpenView). mark_at x.marks (compilation_of x)) is

  -- ---- its claim

  free_stage : (s : Stage) → compile_mark s ≡ Free → s ≡ Waiting
  free_stage Waiting e = refl
  free_stage Compiling e = absurd (cc)
  free_stage (Refused refusal) e = absurd (cc)
  free_stage (Nodes r) e = absurd (cc)

  busy_stage : (s : Stage) → compile_mark s ≡ Busy → s ≡ Compiling
  busy_stage Waiting e = absurd (cc)
  busy_stage Compiling e = refl
  busy_stage (Refused refusal) e = absurd (cc)
  busy_stage (Nodes r) e = absurd (cc)

  pub waits : mark_at v.marks (compilation_of v) ≡ Free → stage ≡ Waiting
  waits free = free_stage stage (mark_is ∙ free)

  pub compiles : mark_at v.marks (compilation_of v) ≡ Busy → stage ≡ Compiling
  compiles busy = busy_stage stage (mark_is ∙ busy)

  pub no_nodes_waiting : stage ≡ Waiting → HasNoNodes stage
  no_nodes_waiting same = subst HasNoNodes (sym same) tt

  pub no_nodes_compiling : stage ≡ Compiling → HasNoNodes stage
  no_nodes_compiling same = subst HasNoNodes (sym same) tt

  left_if : left_if_ready v ≡ preparing.left_if_ready c
  left_if = ap left_if_ready (sym is) ∙ early.left_same c workers stage keeps.marks_many

  pub ready_so : is_some (left_if_ready v) ≡ true → preparing.IsReady c
  ready_so ready = ap is_some (sym left_if) ∙ ready

  pub left_is : left_by v ≡ preparing.left_by c
  left_is = ap (λ o. unwrap_or o []) left_if

  pub key_is : preparing.key_of (preparing.graph_in c) workers c.firing (preparing.left_by c) ≡ key_in v
  key_is =
      ap (preparing.key_of (preparing.graph_in c) workers c.firing) (ap (λ o. unwrap_or o []) (sym (early.left_same c workers stage keeps.marks_many)))
      ∙ ap key_in is

  pub claim_keeps : preparing.IsReady c → KeepsWith c workers Compiling
  claim_keeps ready = record { valid = keeps.valid; fit = keeps.fit; some = keeps.some; marks_many = keeps.marks_many; lent_many = keeps.lent_many; gave = keeps.gave; stage_fits = ready }

  pub claim_view : stage ≡ Waiting → view_with c workers Compiling ≡ with_mark v (compilation_of v) Busy
  claim_view same =
      let marks = put_seam c.marks (compile_mark Waiting) [] Busy k keeps.marks_many in
      let first : view_with c workers Compiling ≡ with_mark (view_with c workers Waiting) k Busy = λ t. record { graphs = c.graphs; workers = workers; firing = c.firing; cells = None; room = None; marks = sym marks t; lent = c.lent ++ None ∷ [] } in
      first ∙ ap (λ (x : OpenView). with_mark x (compilation_of x) Busy) (ap (view_with c workers) (sym same) ∙ is)

  -- ---- its finish

  module _ (end : CompileEnd) (compiling_now : stage ≡ Compiling) (is_end : IsEndOf c.graphs.graphs workers c.firing (preparing.left_by c) end) where
    here : view_with c workers Compiling ≡ v
    here = ap (view_with c workers) (sym compiling_now) ∙ is

    ready_now : preparing.IsReady c
    ready_now = let P : Stage → Type 0 = λ s. StageFits c workers s in let fits : StageFits c workers Compiling = subst P compiling_now keeps.stage_fits in fits

    pub finish_keeps : (next : Stage) → GoesOnWith c workers end next → KeepsWith c workers next
    finish_keeps Waiting went = absurd went
    finish_keeps Compiling went = absurd went
    finish_keeps (Refused refusal) went = record { valid = keeps.valid; fit = keeps.fit; some = keeps.some; marks_many = keeps.marks_many; lent_many = keeps.lent_many; gave = keeps.gave; stage_fits = ready_now }
    finish_keeps (Nodes r) went = record { valid = keeps.valid; fit = keeps.fit; some = keeps.some; marks_many = keeps.marks_many; lent_many = keeps.lent_many; gave = keeps.gave; stage_fits = went.runs }

    -- all but the compilation is as before
    module _ (next : Stage) (free : (n : ℕ) → mark_at (node_marks next) n ≡ Free) (unlent : (n : ℕ) → lent_at (node_lent next) n ≡ None) (few : free_in (node_marks next) ≤ nodes_by end) where
      abbrev w : OpenView
      w = view_with c workers next

      abbrev u : OpenView
      u = view_with c workers Compiling

      others : (i : ℕ) → i ≢ k → mark_at w.marks i ≡ mark_at u.marks i
      others i differs = ⊎_elim
          (λ (below : i < k). early.mark_before c workers next keeps.marks_many i below ∙ sym (early.mark_before c workers Compiling keeps.marks_many i below))
          (λ (rest : (i ≡ k) ⊎ IsAfter k i). ⊎_elim
          (λ (at : i ≡ k). absurd (differs at))
          (λ (after : IsAfter k i).
          ap (mark_at w.marks) after.number ∙ early.mark_after c workers next keeps.marks_many after.node ∙ free after.node
          ∙ sym (ap (mark_at u.marks) after.number ∙ early.mark_after c workers Compiling keeps.marks_many after.node))
          rest)
          (where_is k i)

      lent_as : (i : ℕ) → lent_at w.lent i ≡ lent_at u.lent i
      lent_as i = ⊎_elim
          (λ (below : i < k). let long = keeps.lent_many in read_before c.lent None (node_lent next) None i (omega arith) ∙ sym (read_before c.lent None [] None i (omega arith)))
          (λ (rest : (i ≡ k) ⊎ IsAfter k i). ⊎_elim
          (λ (at : i ≡ k). ap (lent_at w.lent) at ∙ read_seam c.lent None (node_lent next) None k keeps.lent_many ∙ sym (ap (lent_at u.lent) at ∙ read_seam c.lent None [] None k keeps.lent_many))
          (λ (after : IsAfter k i).
          let long = keeps.lent_many in
          ap (lent_at w.lent) after.number ∙ read_after c.lent None (node_lent next) None (k + 1) after.node (omega arith) ∙ unlent after.node
          ∙ sym (ap (lent_at u.lent) after.number ∙ read_after c.lent None [] None (k + 1) after.node (omega arith)))
          rest)
          (where_is k i)

      finishes : (a : Answer) → compile_mark next ≡ Done a → compile_answer c.firing end ≡ Some a → IsPlacedBy end (stage_cells next) → FinishesCompilation end v w
      finishes a done answer placed =
          let F : OpenView → Type 0 = λ x. FinishesCompilation end x w in
          let left : preparing.left_by c ≡ left_by u = ap (λ o. unwrap_or o []) (sym (early.left_same c workers Compiling keeps.marks_many)) in
          let L : List Configured → Type 0 = λ l. doing.IsCompiled c.graphs.graphs c.firing l a in
          subst F here record {
            graphs_are = refl;
            workers_are = refl;
            firing_is = refl;
            unplaced = refl;
            placed = placed;
            answer = a;
            answer_is = answer;
            answered = subst L left (compile_answers c.graphs.graphs workers c.firing (preparing.left_by c) end a keeps.fit is_end answer);
            done = early.mark_here c workers next keeps.marks_many ∙ done;
            others = others;
            lent = lent_as;
            free =
                let was = total_append free_one c.marks (Busy ∷ []) in
                let now = total_append free_one c.marks (compile_mark next ∷ node_marks next) in
                let none = ap free_one done in
                omega (arith, few);
          }

    pub finish_view : (next : Stage) → GoesOnWith c workers end next → FinishesCompilation end v (view_with c workers next)
    finish_view Waiting went = absurd went
    finish_view Compiling went = absurd went
    finish_view (Refused refusal) went = finishes (Refused refusal) (λ n. refl) (λ n. refl) (omega arith) (Refuses refusal) refl went (refused_unplaced c.firing end refusal went)
    finish_view (Nodes r) went =
        finishes (Nodes r)
        (λ n. ap (λ (l : List (Mark Firing Answer)). mark_at l n) went.marks_are ∙ read_copies (length (running.nodes_of r)) n Free)
        (λ n. ap (λ (l : List (Option Places)). lent_at l n) went.lent_are ∙ read_copies (length (running.nodes_of r)) n None)
        (let all = ap free_in went.marks_are ∙ free_copies (length (running.nodes_of r)) in let many = went.many in omega arith)
        (Schedules r.prepared.schedule) refl went.schedule_is went.placed

  -- ---- what its calls say of the job's own view

  pub key_of_ready : (result : Result Key AllocError) → IfOk result (λ key. key ≡ preparing.key_of (preparing.graph_in c) workers c.firing (preparing.left_by c)) → IfOk result (λ key. key ≡ key_in v)
  key_of_ready (Ok key) made = made ∙ key_is
  key_of_ready (Err error) made = tt

  -- what is at hand suits the job
  pub suits_so : (at_hand : AtHand) → SuitsKey v.graphs.graphs (key_in v) at_hand → SuitsKey c.graphs.graphs (preparing.key_of (preparing.graph_in c) workers c.firing (preparing.left_by c)) at_hand
  suits_so at_hand suits =
      let P : OpenView → Type 0 = λ x. SuitsKey x.graphs.graphs (key_in v) at_hand in
      subst (λ key. SuitsKey c.graphs.graphs key at_hand) (sym key_is) (subst P (sym is) suits)

  abbrev Task : Option Compilation → List Configured → OpenView → CompileView
  Task kept left x = record { graphs = x.graphs; workers = x.workers; firing = x.firing; left = left; kept = kept }

  pub task_view : (kept : Option Compilation) → Task kept (preparing.left_by c) (view_with c workers stage) ≡ Task kept (left_by v) v
  task_view kept = ap (λ (l : List Configured). Task kept l (view_with c workers stage)) (sym left_is) ∙ ap (Task kept (left_by v)) is

  pub ready_compiling : stage ≡ Compiling → preparing.IsReady c
  ready_compiling same = let P : Stage → Type 0 = λ s. StageFits c workers s in let fits : StageFits c workers Compiling = subst P same keeps.stage_fits in fits

  pub end_is : (end : CompileEnd) → IsEndOf v.graphs.graphs v.workers v.firing (left_by v) end → IsEndOf c.graphs.graphs workers c.firing (preparing.left_by c) end
  end_is end so =
      let P : OpenView → Type 0 = λ x. IsEndOf x.graphs.graphs x.workers x.firing (left_by v) end in
      let Q : List Configured → Type 0 = λ l. IsEndOf c.graphs.graphs workers c.firing l end in
      subst Q left_is (subst P (sym is) so)
