-- Whether nothing more will come of a job, item by item.
use Rattle.std.proofs.Common.{◌≡◌, ◌≢◌, ℕ, ◌<◌, Bool, true, false, List, [], length, get_or, Option, sym, ap, ◌∙◌, subst, arith}
use Rattle.std.specs.Prelude.{slice_index}
use Rattle.std.proofs.lemmas.List.{get_or_default, get_or_read}
use Rattle.job_rules.specs.Items.{count, job_rules, rule}
use Rattle.nested_jobs.specs.Steps.{is_settled}
use Rattle.nested_jobs.specs.Tables.{is_quiet_row}
use Rattle.pisdf_model.specs.declared.graph.Graph.{Graph}
use Rattle.audit_job.specs.Jobs.{IsJob, row_of}
use Rattle.audit_job.specs.Kinds.{IsKind, settles}
use Rattle.audit_job.specs.Marks.{answers, mark_at, mark_of}
use Rattle.audit_job.specs.declared.answer.Kind.{Kind}
use Rattle.audit_job.specs.declared.answer.Mark.{Mark}
use Rattle.audit_job.specs.declared.answer.Mark.TheVariants as stands
use Rattle.audit_job.specs.declared.job.Job.{Job}
use Rattle.audit_job.proofs.ListedItems.{listed}
use Rattle.audit_job.proofs.Quieting.{all_from, not_all, settles_so}
use Rattle.audit_job.proofs.RunningItems.{none_running, runs_unsettled, settled_else, some_running}

module _ (graphs : List Graph) (workers : ℕ) (job : Job) (is : IsJob graphs workers job) where
  -- whether an item is settled, by its mark and by what it is to do
  pub settled_by : (i : ℕ) (m : Mark) (k : Option Kind) → i < length job.marks.items → m ≡ get_or job.marks.items i m → IsKind (rule graphs job.firing (answers job.marks.items) i) k →
      is_settled (mark_at job.marks.items i) (rule graphs job.firing (answers job.marks.items) i) ≡ settles (mark_of m) k
  settled_by i m k inside at kind =
      settles_so (mark_at job.marks.items i) (rule graphs job.firing (answers job.marks.items) i) k kind
      ∙ ap (λ (x : Mark). settles (mark_of x) k) (sym (get_or_read job.marks.items i m inside at stands.Free))

  pub quiet_so : ((i : ℕ) → i < length job.marks.items → is_settled (mark_at job.marks.items i) (rule graphs job.firing (answers job.marks.items) i) ≡ true) → true ≡ is_quiet_row (job_rules graphs) (row_of [] job)
  quiet_so each =
      let many = is.one_each in
      sym (all_from (count graphs job.firing (answers job.marks.items)) (λ i. is_settled (mark_at job.marks.items i) (rule graphs job.firing (answers job.marks.items) i)) (λ i below. each i (omega arith)))

  pub not_quiet : (i : ℕ) → i < length job.marks.items → is_settled (mark_at job.marks.items i) (rule graphs job.firing (answers job.marks.items) i) ≡ false → false ≡ is_quiet_row (job_rules graphs) (row_of [] job)
  not_quiet i inside unsettled =
      let many = is.one_each in
      sym (not_all (count graphs job.firing (answers job.marks.items)) (λ k. is_settled (mark_at job.marks.items k) (rule graphs job.firing (answers job.marks.items) k)) i (omega arith) unsettled)

  abbrev pub settled_at : ℕ → Bool
  settled_at i = is_settled (mark_at job.marks.items i) (rule graphs job.firing (answers job.marks.items) i)

  -- an item runs
  pub runs_on : job.running ≢ 0 → false ≡ is_quiet_row (job_rules graphs) (row_of [] job)
  runs_on some =
      let at = some_running job.marks.items (λ none. some (is.running_are ∙ none)) in
      not_quiet at.0 at.1 (runs_unsettled (mark_at job.marks.items at.0) (rule graphs job.firing (answers job.marks.items) at.0) at.2)

  -- nothing runs, and each candidate is settled
  pub quiet_by : job.running ≡ 0 → ((k : ℕ) → k < length job.candidates.items → settled_at (slice_index job.candidates.items k) ≡ true) → true ≡ is_quiet_row (job_rules graphs) (row_of [] job)
  quiet_by none each = quiet_so (λ i inside. settled_else (mark_at job.marks.items i) (rule graphs job.firing (answers job.marks.items) i) (none_running job.marks.items (sym is.running_are ∙ none) i) (λ free task has.
      let at = listed graphs workers job is i free task has in
      subst (λ (k : ℕ). settled_at k ≡ true) (get_or_default job.candidates.items at.0 0 i at.1 ∙ at.2) (each at.0 at.1)))
