-- Each free item with a task may be offered.
use Rattle.std.proofs.Common.{◌≡◌, ◌≢◌, ℕ, ◌+◌, ◌-◌, ◌<◌, ◌≤◌, List, length, Option, Some, None, refl, sym, ap, ◌∙◌, subst, arith, ⊎_elim}
use Rattle.std.specs.Prelude.{Contains, slice_index}
use Rattle.std.proofs.lemmas.Bool.{cases_eq, cases_lt}
use Rattle.job_rules.specs.Items.{rule}
use Rattle.job_rules.specs.Words as words
use Rattle.nested_jobs.specs.Marks.{Free}
use Rattle.nested_jobs.specs.Rules.{Task}
use Rattle.pisdf_meaning.specs.declared.firing.Firing.{Firing}
use Rattle.pisdf_model.specs.declared.graph.Graph.{Graph}
use Rattle.audit_job.specs.Candidates.{waits_in}
use Rattle.audit_job.specs.Jobs.{IsJob}
use Rattle.audit_job.specs.Marks.{answers, mark_at}
use Rattle.audit_job.specs.declared.job.Job.{Job}
use Rattle.audit_job.specs.declared.job.Nodes.{Nodes}
use Rattle.audit_job.proofs.KindsOfItems.{no_nodes, node_rule_is, so}
use Rattle.audit_job.proofs.WaitingNodes as waiting

module _ (graphs : List Graph) (workers : ℕ) (job : Job) (is : IsJob graphs workers job) (i : ℕ) (free : mark_at job.marks.items i ≡ Free) (t : Task Firing words.Work) (task : rule graphs job.firing (answers job.marks.items) i ≡ Some t) where
  taskless : rule graphs job.firing (answers job.marks.items) i ≡ None → ⊥
  taskless none = let e : None ≡ Some t = sym none ∙ task in absurd (cc)

  module _ (after : length job.places.items < i) where
    abbrev n : ℕ
    n = i - length job.places.items - 1

    at : length job.places.items + 1 + n ≡ i
    at = omega arith

    node_listed : (o : Option Nodes) → job.nodes ≡ o → Contains job.candidates.items i
    node_listed None e = absurd (taskless (no_nodes graphs workers job is i after e))
    node_listed (Some nodes) e =
        let rule_is = node_rule_is graphs workers job is i after nodes e in
        let are = (so graphs workers job is i after nodes e).1 in
        let within : n < length nodes.waits.items = ⊎_elim
        (λ (low : n < length nodes.waits.items). low)
        (λ (past : length nodes.waits.items ≤ n). absurd (taskless (rule_is ∙ waiting.past graphs workers job.firing (answers job.marks.items) nodes are n past)))
        (cases_lt n (length nodes.waits.items)) in
        let none : slice_index nodes.waits.items n ≡ 0 = ⊎_elim
        (λ (none : slice_index nodes.waits.items n ≡ 0). none)
        (λ (some : slice_index nodes.waits.items n ≢ 0). absurd (taskless (rule_is ∙ waiting.waits graphs workers job.firing (answers job.marks.items) nodes are n within some)))
        (cases_eq (slice_index nodes.waits.items n) 0) in
        let waits : waits_in job.nodes ≡ nodes.waits.items = ap waits_in e in
        subst (λ (k : ℕ). Contains job.candidates.items k) at
        (is.candidates.nodes n (subst (λ (l : List ℕ). n < length l) (sym waits) within) (ap (λ (l : List ℕ). slice_index l n) waits ∙ none) (ap (mark_at job.marks.items) at ∙ free))

  pub listed : Contains job.candidates.items i
  listed = ⊎_elim
      (λ (after : length job.places.items < i). node_listed after job.nodes refl)
      (λ (early : i ≤ length job.places.items). is.candidates.early i early free)
      (cases_lt (length job.places.items) i)
