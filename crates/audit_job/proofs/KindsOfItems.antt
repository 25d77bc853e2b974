-- What the items of a job are to do: work of their own, or calls.
use Rattle.std.proofs.Common.{◌≡◌, ℕ, ◌+◌, ◌-◌, ◌<◌, List, length, get_or, Option, Some, None, refl, sym, ap, ◌∙◌, subst, arith}
use Rattle.std.specs.Prelude.{MatchOption, slice_index}
use Rattle.job_rules.specs.Items.{compile_rule, config_task, graph_of, left_in, node_base, node_values, ready_task, rule}
use Rattle.job_rules.specs.Words as words
use Rattle.job_rules.specs.Words.{Answer}
use Rattle.nested_jobs.specs.Rules.{Task, Values, Work}
use Rattle.pisdf_meaning.specs.Configuring.{Configuration, configurations}
use Rattle.pisdf_meaning.specs.Nested.{configuration_at}
use Rattle.pisdf_meaning.specs.Sound.{actor_at}
use Rattle.pisdf_meaning.specs.declared.firing.Configured.{Configured}
use Rattle.pisdf_meaning.specs.declared.firing.Firing.{Firing}
use Rattle.pisdf_model.specs.declared.actor.Body.{Body}
use Rattle.pisdf_model.specs.declared.graph.Graph.{Graph}
use Rattle.audit_job.specs.Giving.{HaveGiven}
use Rattle.audit_job.specs.Jobs.{IsJob, IsPrepared, prepared_of}
use Rattle.audit_job.specs.Kinds.{IsKind}
use Rattle.audit_job.specs.Marks.{answers}
use Rattle.audit_job.specs.declared.answer.Kind.{Kind}
use Rattle.audit_job.specs.declared.answer.Kind.TheVariants as kind
use Rattle.audit_job.specs.declared.answer.Mark.TheVariants as stands
use Rattle.audit_job.specs.declared.job.Job.{Job}
use Rattle.audit_job.specs.declared.job.Nodes.{Nodes}
use Rattle.audit_job.proofs.Answered.{unprepared}
use Rattle.audit_job.proofs.ConfigItems as config
use Rattle.audit_job.proofs.ItemRules.{no_node_task, node_task_is, rule_at}
use Rattle.audit_job.proofs.Leaving.{all_left, each_gave, given_mark, mark_given}

module _ (graphs : List Graph) (workers : ℕ) (job : Job) (is : IsJob graphs workers job) (i : ℕ) where
  abbrev g : Graph
  g = graph_of graphs job.firing

  abbrev v : Values Answer
  v = answers job.marks.items

  pub config_item : (below : i < length job.places.items) (body : Body) (k : Option Kind) → (actor_at g (slice_index job.places.items i)).body ≡ body →
      ((graphs : List Graph) (g : Graph) (firing : Firing) (c : Configuration) → IsKind (config_task graphs g firing c body) k) → IsKind (rule graphs job.firing v i) k
  config_item below body k same kind =
      let c : Configuration = configuration_at g (i) (slice_index job.places.items i) in
      let P : Option (Task Firing words.Work) → Type 0 = λ t. IsKind t k in
      let B : Body → Type 0 = λ b. IsKind (config_task graphs g job.firing c b) k in
      subst P (sym (config.rule_is graphs workers job is i below v)) (subst B (sym same) (kind graphs g job.firing c))

  -- ---- the compilation

  abbrev AllGave : Type 0
  AllGave = HaveGiven job.marks.items (length job.places.items)

  left_there : AllGave → (left : List Configured) × (left_in g v ≡ Some left)
  left_there all =
      let m = is.places_are.one_each in
      all_left v 0 (configurations g) (λ j low high. given_mark (get_or job.marks.items j stands.Free) (all j (omega arith)))

  pub compiles : i ≡ length job.places.items → AllGave → (work : words.Work) × (rule graphs job.firing v i ≡ Some (Work work))
  compiles at all =
      let m = is.places_are.one_each in
      let left = left_there all in
      (words.Compiles job.firing left.0, rule_at graphs job.firing v i (at ∙ m) ∙ ap (compile_rule job.firing) left.1)

  no_left : (o : Option (List Configured)) → left_in g v ≡ o → ¬ AllGave → o ≡ None
  no_left None e not = refl
  no_left (Some left) e not =
      let m = is.places_are.one_each in
      absurd (not (λ j below. mark_given (get_or job.marks.items j stands.Free) (each_gave v 0 (configurations g) left e j (omega arith) (omega arith))))

  pub compiles_not : i ≡ length job.places.items → ¬ AllGave → rule graphs job.firing v i ≡ None
  compiles_not at not =
      let m = is.places_are.one_each in
      rule_at graphs job.firing v i (at ∙ m) ∙ ap (compile_rule job.firing) (no_left (left_in g v) refl not)

  compiles_as : (k : Kind) → k ≡ kind.Work → AllGave → i ≡ length job.places.items → IsKind (rule graphs job.firing v i) (Some k)
  compiles_as kind.Work same all at = compiles at all
  compiles_as kind.Call same all at = absurd (cc)

  pub compile_item : i ≡ length job.places.items → (o : Option Kind) → MatchOption o (¬ AllGave) (λ k. (k ≡ kind.Work) × AllGave) → IsKind (rule graphs job.firing v i) o
  compile_item at None not = compiles_not at not
  compile_item at (Some k) so = compiles_as k so.0 so.1 at

  -- ---- nodes

  module _ (after : length job.places.items < i) where
    number_is : i ≡ node_base g + (i - length job.places.items - 1)
    number_is = let m = is.places_are.one_each in omega arith

    pub no_nodes : job.nodes ≡ None → rule graphs job.firing v i ≡ None
    no_nodes none = no_node_task graphs job.firing v (unprepared g v (subst (λ (o : Option Nodes). IsPrepared graphs workers job.firing v o) none is.prepared)) i (i - length job.places.items - 1) number_is

    module _ (nodes : Nodes) (nodes_are : job.nodes ≡ Some nodes) where
      pub so : IsPrepared graphs workers job.firing v (Some nodes)
      so = subst (λ (o : Option Nodes). IsPrepared graphs workers job.firing v o) nodes_are is.prepared

      pub node_rule_is : rule graphs job.firing v i ≡ ready_task graphs g job.firing (prepared_of nodes) (node_values graphs g job.firing (prepared_of nodes) v) (i - length job.places.items - 1)
      node_rule_is = node_task_is graphs job.firing v (prepared_of nodes) so.0 i (i - length job.places.items - 1) number_is
