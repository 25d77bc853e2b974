-- Which items a job offers in each of its stages.
use Rattle.std.proofs.Common.{◌≡◌, ℕ, zero, suc, ◌+◌, ◌-◌, ◌<◌, ◌≤◌, ◌⊎◌, inl, inr, ⊎_elim, true, List, [], ◌∷◌, length, slice_get, Option, Some, None, is_some, refl, sym, ap, ◌∙◌, subst, arith}
use Rattle.std.proofs.lemmas.Bool.{cases_lt}
use Rattle.std.proofs.lemmas.Option.{slice_get_within}
use Rattle.nested_jobs.specs.Marks as mark
use Rattle.nested_jobs.specs.Marks.{Mark, Free}
use Rattle.nested_jobs.specs.Rules.{Task, Work, Call, Values}
use Rattle.pisdf_model.specs.declared.graph.Graph.{Graph}
use Rattle.pisdf_meaning.specs.Configuring.{Configuration, configurations}
use Rattle.pisdf_meaning.specs.declared.firing.Configured.{Configured}
use Rattle.pisdf_meaning.specs.declared.firing.Firing.{Firing}
use Rattle.job_rules.specs.Words as words
use Rattle.job_rules.specs.Words.{Answer}
use Rattle.job_rules.specs.Items.{compile_number, compile_rule, leaves, left_from, left_in, node_base, prepared_by, schedule_of}
use Rattle.job_rules.proofs.Parts.{both_are}
use Rattle.job_preparing.specs.Handing.{answers, mark_at}
use Rattle.job_preparing.specs.View as preparing
use Rattle.job_preparing.specs.View.{ConfiguringView, task_of}
use Rattle.graph_firing.specs.Nodes.View as running
use Rattle.graph_firing.specs.Nodes.View.{RunningView}
use Rattle.graph_firing.specs.View.{IsOfferedCall, IsOfferedWork, OpenView, answered, task}
use Rattle.graph_firing.specs.Invariants.{compile_mark, node_marks, view_with}
use Rattle.graph_firing.specs.Running.{RunsFor}
use Rattle.graph_firing.specs.declared.stage.Stage.{Stage}
use Rattle.graph_firing.specs.declared.stage.Stage.TheVariants.{Waiting, Nodes}
use Rattle.graph_firing.proofs.Early as early
use Rattle.graph_firing.proofs.NodeRules as nodes
use Rattle.graph_firing.proofs.Rules as rules

-- ---- where all configuration actors gave something

answered_some : (o : Option Answer) (one : Configured) → leaves o ≡ Some one → (a : Answer) × (o ≡ Some a)
answered_some None one is = absurd (cc)
answered_some (Some a) one is = (a, refl)

each_gave : (v : Values Answer) (i : ℕ) (cs : List Configuration) (left : List Configured) → left_from v i cs ≡ Some left → (j : ℕ) → j < length cs → (a : Answer) × (v (i + j) ≡ Some a)
each_gave v i [] left is j below = absurd (omega arith)
each_gave v i (c ∷ cs) left is zero below =
    let parts = both_are (leaves (v i)) (left_from v (i + 1) cs) left is in
    let e : i + 0 ≡ i = omega arith in
    rw e (answered_some (v i) parts.first parts.first_is)
each_gave v i (c ∷ cs) left is (suc j) below =
    let parts = both_are (leaves (v i)) (left_from v (i + 1) cs) left is in
    let e : i + suc j ≡ i + 1 + j = omega arith in
    rw e (each_gave v (i + 1) cs parts.rest parts.rest_is j (omega arith))

pub some_is : {T : Type 0} (o : Option T) → is_some o ≡ true → (x : T) × (o ≡ Some x)
some_is None is = absurd (cc)
some_is (Some x) is = (x, refl)

-- a finished item isn't free, busy or open
pub not_finished : (m : Mark Firing Answer) (a : Answer) → mark.answer_of m ≡ Some a → m ≡ mark.Done a
not_finished mark.Free a is = absurd (cc)
not_finished mark.Busy a is = absurd (cc)
not_finished (mark.Open job) a is = absurd (cc)
not_finished (mark.Done answer) a is = let same : answer ≡ a = cc in ap mark.Done same

module _ (c : ConfiguringView) (ready : preparing.IsReady c) where
  pub all_done : (i : ℕ) → i < compile_number (preparing.graph_in c) → (a : Answer) × (mark_at c.marks i ≡ mark.Done a)
  all_done i below =
      let left = some_is (preparing.left_if_ready c) ready in
      let gave = each_gave (answers c.marks) 0 (configurations (preparing.graph_in c)) left.0 left.1 i below in
      let e : 0 + i ≡ i = omega arith in
      (gave.0, not_finished (mark_at c.marks i) gave.0 (ap (answers c.marks) (sym e) ∙ gave.1))

  pub none_free : (i : ℕ) → i < compile_number (preparing.graph_in c) → mark_at c.marks i ≡ Free → ⊥
  none_free i below free = let done = all_done i below in let e : Free ≡ mark.Done done.0 = sym free ∙ done.1 in cc

-- ---- what is offered of configuration actors is one of them

task_inside : (graphs : List Graph) (g : Graph) (firing : Firing) (cs : List Configuration) (i : ℕ) (t : Task Firing words.Work) → task_of graphs g firing (slice_get cs i) ≡ Some t → i < length cs
task_inside graphs g firing cs i t is = go (slice_get cs i) refl is
  where
    go : (o : Option Configuration) → slice_get cs i ≡ o → task_of graphs g firing o ≡ Some t → i < length cs
    go None at e = absurd (cc)
    go (Some one) at e = slice_get_within cs i one at

pub actor_inside : (c : ConfiguringView) (i : ℕ) (t : Task Firing words.Work) → preparing.task c i ≡ Some t → i < compile_number (preparing.graph_in c)
actor_inside c i t is = task_inside c.graphs.graphs (preparing.graph_in c) c.firing (configurations (preparing.graph_in c)) i t is

-- ---- numbers

pub record IsAfter (k i : ℕ) : Type 0 where
  pub node : ℕ
  pub number : i ≡ k + 1 + node

pub where_is : (k i : ℕ) → (i < k) ⊎ ((i ≡ k) ⊎ IsAfter k i)
where_is k i = ⊎_elim
    (λ (below : i < k). inl below)
    (λ (past : k ≤ i). ⊎_elim
    (λ (above : k < i). inr (inr record { node = i - (k + 1); number = omega arith }))
    (λ (low : i ≤ k). inr (inl (omega arith)))
    (cases_lt k i))
    (cases_lt i k)

-- ---- a job without nodes

unscheduled : (o : Option (List Configured)) → prepared_by o None ≡ None
unscheduled None = refl
unscheduled (Some left) = refl

module _ (c : ConfiguringView) (workers : ℕ) (stage : Stage) (long : length c.marks ≡ compile_number (preparing.graph_in c)) (no_schedule : schedule_of (mark.answer_of (compile_mark stage)) ≡ None) where
  abbrev v : OpenView
  v = view_with c workers stage

  abbrev k : ℕ
  k = compile_number (preparing.graph_in c)

  pub unprepared_so : prepared_by (preparing.left_if_ready c) (schedule_of (mark.answer_of (compile_mark stage))) ≡ None
  unprepared_so = ap (prepared_by (preparing.left_if_ready c)) no_schedule ∙ unscheduled (preparing.left_if_ready c)

  pub no_node : (n : ℕ) (t : Task Firing words.Work) → task v (k + 1 + n) ≡ Some t → ⊥
  no_node n t is =
      let none = rules.no_node_task c.graphs.graphs c.firing c.marks (compile_mark stage) (node_marks stage) long unprepared_so n in
      let e : None ≡ Some t = sym none ∙ is in cc

-- before the compilation is claimed
module _ (c : ConfiguringView) (workers : ℕ) (long : length c.marks ≡ compile_number (preparing.graph_in c)) where
  abbrev w : OpenView
  w = view_with c workers Waiting

  abbrev j : ℕ
  j = compile_number (preparing.graph_in c)

  compile_ready : (o : Option (List Configured)) (t : Task Firing words.Work) → compile_rule c.firing o ≡ Some t → is_some o ≡ true
  compile_ready None t is = absurd (cc)
  compile_ready (Some left) t is = refl

  compile_work : (o : Option (List Configured)) → is_some o ≡ true → (work : words.Work) × (compile_rule c.firing o ≡ Some (Work work))
  compile_work None is = absurd (cc)
  compile_work (Some left) is = (words.Compiles c.firing left, refl)

  compile_no_call : (o : Option (List Configured)) (d : Firing) → compile_rule c.firing o ≡ Some (Call d) → ⊥
  compile_no_call None d is = cc
  compile_no_call (Some left) d is = cc

  pub waiting_work : (i : ℕ) → IsOfferedWork w i → preparing.IsOfferedWork c i ⊎ ((i ≡ j) × preparing.IsReady c)
  waiting_work i offered = ⊎_elim
      (λ (below : i < j). inl (early.work_before c workers Waiting long i below offered))
      (λ (rest : (i ≡ j) ⊎ IsAfter j i). ⊎_elim
      (λ (here : i ≡ j).
      let at : task w j ≡ Some (Work offered.work) = ap (task w) (sym here) ∙ offered.task_is in
      let ready = compile_ready (left_in (preparing.graph_in c) (answered w)) (Work offered.work) (sym (early.task_here c workers Waiting long) ∙ at) in
      inr (here, ap is_some (sym (early.left_same c workers Waiting long)) ∙ ready))
      (λ (after : IsAfter j i). absurd (no_node c workers Waiting long refl after.node (Work offered.work) (ap (task w) (sym after.number) ∙ offered.task_is)))
      rest)
      (where_is j i)

  pub waiting_call : (i : ℕ) → IsOfferedCall w i → preparing.IsOfferedCall c i
  waiting_call i offered = ⊎_elim
      (λ (below : i < j). early.call_before c workers Waiting long i below offered)
      (λ (rest : (i ≡ j) ⊎ IsAfter j i). ⊎_elim
      (λ (here : i ≡ j).
      let at : task w j ≡ Some (Call offered.job) = ap (task w) (sym here) ∙ offered.task_is in
      absurd (compile_no_call (left_in (preparing.graph_in c) (answered w)) offered.job (sym (early.task_here c workers Waiting long) ∙ at)))
      (λ (after : IsAfter j i). absurd (no_node c workers Waiting long refl after.node (Call offered.job) (ap (task w) (sym after.number) ∙ offered.task_is)))
      rest)
      (where_is j i)

  pub compilation_waits : preparing.IsReady c → IsOfferedWork w j
  compilation_waits ready =
      let work = compile_work (left_in (preparing.graph_in c) (answered w)) (ap is_some (early.left_same c workers Waiting long) ∙ ready) in
      record { free = early.mark_here c workers Waiting long; work = work.0; task_is = early.task_here c workers Waiting long ∙ work.1 }

-- once it is claimed, and no nodes are there
module _ (c : ConfiguringView) (workers : ℕ) (stage : Stage) (long : length c.marks ≡ compile_number (preparing.graph_in c)) (ready : preparing.IsReady c) (no_schedule : schedule_of (mark.answer_of (compile_mark stage)) ≡ None) (claimed : compile_mark stage ≡ Free → ⊥) where
  abbrev u : OpenView
  u = view_with c workers stage

  pub none_offered : (i : ℕ) → mark_at u.marks i ≡ Free → (t : Task Firing words.Work) → task u i ≡ Some t → ⊥
  none_offered i free t is = ⊎_elim
      (λ (below : i < compile_number (preparing.graph_in c)). none_free c ready i below (sym (early.mark_before c workers stage long i below) ∙ free))
      (λ (rest : (i ≡ compile_number (preparing.graph_in c)) ⊎ IsAfter (compile_number (preparing.graph_in c)) i). ⊎_elim
      (λ (here : i ≡ compile_number (preparing.graph_in c)). claimed (sym (early.mark_here c workers stage long) ∙ ap (mark_at u.marks) (sym here) ∙ free))
      (λ (after : IsAfter (compile_number (preparing.graph_in c)) i). no_node c workers stage long no_schedule after.node t (ap (task u) (sym after.number) ∙ is))
      rest)
      (where_is (compile_number (preparing.graph_in c)) i)

-- once the nodes are there
pub record IsNodeOf (P : ℕ → Type 0) (base i : ℕ) : Type 0 where
  pub node : ℕ
  pub number : i ≡ base + node
  pub holds : P node

module _ (c : ConfiguringView) (workers : ℕ) (r : RunningView) (long : length c.marks ≡ compile_number (preparing.graph_in c)) (runs : RunsFor c workers r) where
  abbrev x : OpenView
  x = view_with c workers (Nodes r)

  abbrev base : ℕ
  base = node_base (preparing.graph_in c)

  is_ready : preparing.IsReady c
  is_ready = ap is_some runs.left_is

  only_nodes : (i : ℕ) → mark_at x.marks i ≡ Free → IsAfter (compile_number (preparing.graph_in c)) i
  only_nodes i free = ⊎_elim
      (λ (below : i < compile_number (preparing.graph_in c)). absurd (none_free c is_ready i below (sym (early.mark_before c workers (Nodes r) long i below) ∙ free)))
      (λ (rest : (i ≡ compile_number (preparing.graph_in c)) ⊎ IsAfter (compile_number (preparing.graph_in c)) i). ⊎_elim
      (λ (here : i ≡ compile_number (preparing.graph_in c)). absurd (let e : compile_mark (Nodes r) ≡ Free = sym (early.mark_here c workers (Nodes r) long) ∙ ap (mark_at x.marks) (sym here) ∙ free in cc))
      (λ (after : IsAfter (compile_number (preparing.graph_in c)) i). after)
      rest)
      (where_is (compile_number (preparing.graph_in c)) i)

  pub work_is_node : (i : ℕ) → IsOfferedWork x i → IsNodeOf (running.IsOfferedWork r) base i
  work_is_node i offered =
      let after = only_nodes i offered.free in
      let P : ℕ → Type 0 = λ m. IsOfferedWork x m in
      record { node = after.node; number = after.number; holds = nodes.node_of_work c workers r long runs after.node (subst P after.number offered) }

  pub call_is_node : (i : ℕ) → IsOfferedCall x i → IsNodeOf (running.IsOfferedCall r) base i
  call_is_node i offered =
      let after = only_nodes i offered.free in
      let P : ℕ → Type 0 = λ m. IsOfferedCall x m in
      record { node = after.node; number = after.number; holds = nodes.node_of_call c workers r long runs after.node (subst P after.number offered) }
