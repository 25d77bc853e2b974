-- One node of a running firing steps on.
use Rattle.std.proofs.Common.{◌≡◌, ◌≢◌, ℕ, ◌<◌, ⊎_elim, ℤ, List, length, set, Option, Some, None, sym, ap, ◌∙◌, subst, arith}
use Rattle.std.specs.Prelude.{Vec}
use Rattle.std.specs.Global.{Global}
use Rattle.std.proofs.lemmas.Bool.{cases_eq}
use Rattle.std.proofs.lemmas.List.{get_or-set_other, get_or-set_same, length-set}
use Rattle.pisdf_model.specs.declared.graph.Graph.{Graph}
use Rattle.pisdf_meaning.specs.declared.outcome.TraceRow.{TraceRow}
use Rattle.sdf_level.specs.declared.node.Node.{Node}
use Rattle.job_flow.specs.Frames.{lens}
use Rattle.job_flow.specs.Graphs.{JobGraph, node_at}
use Rattle.job_flow.specs.Events.{Grows, IsReady}
use Rattle.job_flow.specs.Laws.{ReadyStays}
use Rattle.job_rules.specs.Items.{actor_of, keeps_state}
use Rattle.one_job.specs.Marks as one
use Rattle.one_job.specs.Pick.{is_child_in}
use Rattle.one_job.specs.View.{IsFiring}
use Rattle.graph_firing.specs.Nodes.Parts.{AllStand, AreTraces, Stands, held_at}
use Rattle.graph_firing.specs.Nodes.Stages.{stage_at, trace_in}
use Rattle.graph_firing.specs.declared.nodes.stage.Stage.{Stage}
use Rattle.graph_firing.specs.declared.nodes.frames.Held.{Held}
use Rattle.graph_firing.specs.declared.nodes.stage.Stage.TheVariants.{Free}

-- the values after a node that had none is marked
pub values_grow : (marks : List one.Mark) (n : ℕ) (m : one.Mark) → one.value_of (one.mark_at marks n) ≡ None → Grows (one.values marks) (one.values (set marks n m))
values_grow marks n m none k answer is = ⊎_elim
    (λ (same : k ≡ n). absurd (let e : one.values marks n ≡ Some answer = ap (one.values marks) (sym same) ∙ is in cc))
    (λ (other : k ≡ n → ⊥). ap one.value_of (get_or-set_other marks n k m one.Free other) ∙ is)
    (cases_eq k n)

module _ (graphs : List Graph) (g : Graph) (kinds : List (Option ℕ)) (job : JobGraph ℤ) (stages : List Stage) (marks : List one.Mark) (held : List Held)
    (stand : AllStand graphs g kinds job stages marks held) (stays : ReadyStays ℤ ℕ) (n : ℕ) (inside : n < length job.nodes) where
  abbrev StandsSo : Stage → one.Mark → Held → Type 0
  StandsSo s m f = Stands graphs (lens job n) (keeps_state graphs (actor_of g (node_at job.nodes n))) (is_child_in kinds (node_at job.nodes n)) (IsFiring (node_at job.nodes n)) s m f

  pub step : (s : Stage) (m : one.Mark) (held' : List Held) → one.value_of (one.mark_at marks n) ≡ None → IsReady job (one.values marks) n → StandsSo s m (held_at held' n) →
      length held' ≡ length held → ((k : ℕ) → k ≢ n → held_at held' k ≡ held_at held k) → AllStand graphs g kinds job (set stages n s) (set marks n m) held'
  step s m held' none ready stands long others = record {
    one_stage = length-set stages n s ∙ stand.one_stage;
    one_mark = length-set marks n m ∙ stand.one_mark;
    few_held = let few = stand.few_held in omega arith;
    has_room = λ k k_in child. let place = stand.has_room k k_in child in omega arith;
    each = λ k k_in. ⊎_elim
        (λ (same : k ≡ n).
        let stage_is : stage_at (set stages n s) n ≡ s = get_or-set_same stages n s Free (let l = stand.one_stage in omega arith) in
        let mark_is : one.mark_at (set marks n m) n ≡ m = get_or-set_same marks n m one.Free (let l = stand.one_mark in omega arith) in
        let P : ℕ → Type 0 = λ i. Stands graphs (lens job i) (keeps_state graphs (actor_of g (node_at job.nodes i))) (is_child_in kinds (node_at job.nodes i)) (IsFiring (node_at job.nodes i)) (stage_at (set stages n s) i) (one.mark_at (set marks n m) i) (held_at held' i) in
        subst P (sym same) (subst (λ x. StandsSo x (one.mark_at (set marks n m) n) (held_at held' n)) (sym stage_is) (subst (λ x. StandsSo s x (held_at held' n)) (sym mark_is) stands)))
        (λ (other : k ≡ n → ⊥).
        let stage_is : stage_at (set stages n s) k ≡ stage_at stages k = get_or-set_other stages n k s Free other in
        let mark_is : one.mark_at (set marks n m) k ≡ one.mark_at marks k = get_or-set_other marks n k m one.Free other in
        let S : Stage → one.Mark → Held → Type 0 = λ x y z. Stands graphs (lens job k) (keeps_state graphs (actor_of g (node_at job.nodes k))) (is_child_in kinds (node_at job.nodes k)) (IsFiring (node_at job.nodes k)) x y z in
        subst (λ x. S x (one.mark_at (set marks n m) k) (held_at held' k)) (sym stage_is) (subst (λ x. S (stage_at stages k) x (held_at held' k)) (sym mark_is) (subst (λ x. S (stage_at stages k) (one.mark_at marks k) x) (sym (others k other)) (stand.each k k_in))))
        (cases_eq k n);
    ready = λ k claimed. stays job (one.values marks) (one.values (set marks n m)) k (values_grow marks n m none) (⊎_elim
        (λ (same : k ≡ n). subst (λ i. IsReady job (one.values marks) i) (sym same) ready)
        (λ (other : k ≡ n → ⊥). stand.ready k (λ free. claimed (get_or-set_other marks n k m one.Free other ∙ free)))
        (cases_eq k n));
  }

-- ---- traces

module _ (nodes : List Node) (kinds : List (Option ℕ)) (counts : List ℕ) (stages : List Stage) (rows : List (Vec (List TraceRow) Global)) (traces : AreTraces nodes kinds counts stages rows) (n : ℕ) (long : length stages ≡ length nodes) where
  pub same_traces : (s : Stage) → trace_in s ≡ trace_in (stage_at stages n) → AreTraces nodes kinds counts (set stages n s) rows
  same_traces s same = record {
    one_each = traces.one_each;
    many = traces.many;
    each = λ k a turn inside is. traces.each k a turn inside is ∙ ⊎_elim
        (λ (here : k ≡ n).
        let at : stage_at (set stages n s) n ≡ s = get_or-set_same stages n s Free (omega arith) in
        ap (λ i. trace_in (stage_at stages i)) here ∙ sym same ∙ ap trace_in (sym at) ∙ ap (λ i. trace_in (stage_at (set stages n s) i)) (sym here))
        (λ (other : k ≡ n → ⊥). ap trace_in (sym (get_or-set_other stages n k s Free other)))
        (cases_eq k n);
  }
