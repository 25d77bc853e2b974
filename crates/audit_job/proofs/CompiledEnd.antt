-- What a job has once its compilation is finished.
use Rattle.std.proofs.Common.{◌≡◌, ◌≢◌, ℕ, ◌+◌, ◌≤◌, List, length, take, take_all, Option, Some, None, refl, sym, ap, ◌∙◌, subst, arith, ⊎_elim}
use Rattle.std.specs.Prelude.{slice_index, vec_capacity}
use Rattle.std.proofs.lemmas.Bool.{cases_eq}
use Rattle.job_rules.specs.Items.{compile_number, compile_rule, graph_of, left_from, left_in, rule}
use Rattle.job_rules.specs.Words as words
use Rattle.job_rules.specs.Words.{Answer}
use Rattle.nested_jobs.specs.Marks as mark
use Rattle.nested_jobs.specs.Rules.{Values, Work}
use Rattle.pisdf_meaning.specs.Configuring.{Configuration, configurations}
use Rattle.pisdf_meaning.specs.declared.firing.Configured.{Configured}
use Rattle.pisdf_meaning.specs.declared.firing.Firing.{Firing}
use Rattle.pisdf_model.specs.declared.graph.Graph.{Graph}
use Rattle.audit_job.specs.Answering.{IsMarked}
use Rattle.audit_job.specs.Candidates.{Adds, is_running, waiting_in, waits_in}
use Rattle.audit_job.specs.Compiling.{ComesWith, EndsAs}
use Rattle.audit_job.specs.Giving.{HaveGiven}
use Rattle.audit_job.specs.Jobs.{IsJob}
use Rattle.audit_job.specs.Marking.{Finishes, TakesEnd, nodes_by}
use Rattle.audit_job.specs.Marks.{answer_of, answers, mark_at}
use Rattle.audit_job.specs.declared.answer.Mark.TheVariants as stands
use Rattle.audit_job.specs.declared.compiling.CompileEnd.{CompileEnd}
use Rattle.audit_job.specs.declared.job.Job.{Job}
use Rattle.audit_job.specs.declared.job.Nodes.{Nodes}
use Rattle.audit_job.proofs.Answered.{stands_inside}
use Rattle.audit_job.proofs.CandidateSteps.{nodes_there}
use Rattle.audit_job.proofs.CompiledJob.{compiled_job}
use Rattle.audit_job.proofs.ItemRules.{rule_at}
use Rattle.audit_job.proofs.Leaving.{each_gave, mark_given}
use Rattle.audit_job.proofs.RunningItems.{one_if}
use Rattle.std.proofs.Common.{get_or}

-- the compilation has a task only where each configuration actor left something
has_left : (firing : Firing) (o : Option (List Configured)) (work : words.Work) → compile_rule firing o ≡ Some (Work work) → (left : List Configured) × (o ≡ Some left) × (work ≡ words.Compiles firing left)
has_left firing None work is = absurd (cc)
has_left firing (Some left) work is = (left, refl, cc)

nodes_are_long : (o : Option Nodes) → nodes_by o ≡ length (waits_in o)
nodes_are_long None = refl
nodes_are_long (Some nodes) = refl

still_free : (old new : Job) (item : ℕ) (a : Answer) → IsMarked item (mark.Done a) (mark_at old.marks.items) (mark_at new.marks.items) → (i : ℕ) → mark_at new.marks.items i ≡ mark.Free → mark_at old.marks.items i ≡ mark.Free
still_free old new item a marked i now = ⊎_elim
    (λ (here : i ≡ item). let e : mark.Done a ≡ mark.Free = sym marked.here ∙ ap (mark_at new.marks.items) (sym here) ∙ now in absurd (cc))
    (λ (else : i ≢ item). sym (marked.others i else) ∙ now)
    (cases_eq i item)

module _ (graphs : List Graph) (workers : ℕ) (old : Job) (is : IsJob graphs workers old) (work : words.Work) (task : rule graphs old.firing (answers old.marks.items) (length old.places.items) ≡ Some (Work work)) where
  abbrev g : Graph
  g = graph_of graphs old.firing

  abbrev v : Values Answer
  v = answers old.marks.items

  left_is : (left : List Configured) × (left_in g v ≡ Some left) × (work ≡ words.Compiles old.firing left)
  left_is = has_left old.firing (left_in g v) work (sym (rule_at graphs old.firing v (length old.places.items) is.places_are.one_each) ∙ task)

  -- so each has given something
  pub have_given : HaveGiven old.marks.items (length old.places.items)
  have_given = λ i below.
      let m = is.places_are.one_each in
      mark_given (get_or old.marks.items i stands.Free) (each_gave v 0 (configurations g) left_is.0 left_is.1 i (omega arith) (omega arith))

  -- what was left, as it is read from the marks
  pub left_read : (left : List Configured) → ((cs : List Configuration) → length old.places.items ≤ length cs → left_from v 0 (take (length old.places.items) cs) ≡ Some left) → left_in g v ≡ Some left
  left_read left read =
      let m = is.places_are.one_each in
      ap (left_from v 0) (sym (take_all (length old.places.items) (configurations g) (omega arith))) ∙ read (configurations g) (omega arith)

  pub finished : (busy : mark_at old.marks.items (length old.places.items) ≡ mark.Busy) (left : List Configured) → left_in g v ≡ Some left → (end : CompileEnd) → EndsAs graphs workers old.firing left end → (new : Job) → TakesEnd end old new →
      Finishes graphs workers (length old.places.items) old new
  finished busy left read end ends new takes =
      let many : length old.places.items ≡ compile_number g = is.places_are.one_each in
      let unfinished : v (compile_number g) ≡ None = ap v (sym many) ∙ ap mark.answer_of busy in
      let marked : IsMarked (compile_number g) (mark.Done (answer_of end.answer)) (mark_at old.marks.items) (mark_at new.marks.items) = subst (λ (k : ℕ). IsMarked k (mark.Done (answer_of end.answer)) (mark_at old.marks.items) (mark_at new.marks.items)) many takes.marked in
      let rule_is : rule graphs old.firing v (length old.places.items) ≡ Some (Work (words.Compiles old.firing left)) = rule_at graphs old.firing v (length old.places.items) many ∙ ap (compile_rule old.firing) read in
      let with_it : ComesWith graphs workers old.firing left (answer_of end.answer) new.nodes = subst (λ (o : Option Nodes). ComesWith graphs workers old.firing left (answer_of end.answer) o) (sym takes.nodes_are) ends.nodes in
      let long : length new.marks.items ≡ length old.marks.items + nodes_by new.nodes = takes.long ∙ ap (λ (o : Option Nodes). length old.marks.items + nodes_by o) (sym takes.nodes_are) in
      let inside = stands_inside old.marks.items (length old.places.items) (λ free. let e : mark.Busy ≡ mark.Free = sym busy ∙ free in absurd (cc)) in
      let waits : waits_in end.nodes ≡ waits_in new.nodes = ap waits_in (sym takes.nodes_are) in
      let added = subst (λ (l : List ℕ). Adds (length old.places.items + 1) (length l) (λ n. slice_index l n ≡ 0) old.candidates new.candidates) waits takes.added in
      let room = subst (λ (l : List ℕ). length new.candidates.items + waiting_in l ≤ vec_capacity new.candidates) waits takes.room in
      let more = nodes_are_long new.nodes in
      let candidates = nodes_there old.marks.items new.marks.items (length old.places.items) (length old.places.items + 1) (waits_in old.nodes) (waits_in new.nodes) old.candidates new.candidates is.candidates
      (still_free old new (length old.places.items) (answer_of end.answer) takes.marked) refl (omega arith) (omega arith) added room in
      let was : one_if (is_running (mark_at old.marks.items (length old.places.items))) ≡ 1 = ap (λ (m : mark.Mark Firing Answer). one_if (is_running m)) busy in
      let counted = takes.counted in
      let were = is.running_are in
      let now = takes.running_is in
      record {
        answer = answer_of end.answer;
        answered = record { work = words.Compiles old.firing left; task_is = rule_is; answered = ends.answered };
        firing_is = takes.firing_is;
        marked = takes.marked;
        is_job = compiled_job graphs workers old is left read unfinished new.marks (answer_of end.answer) marked ends.answered new takes.firing_is takes.early_is takes.places_are refl with_it long candidates (omega arith);
      }
