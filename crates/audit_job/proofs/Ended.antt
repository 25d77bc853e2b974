-- How a job ends of which nothing more will come.
use Rattle.std.proofs.Common.{◌≡◌, ◌≢◌, ℕ, zero, suc, ◌+◌, ◌<◌, ◌≤◌, true, ℤ, List, length, drop, Option, Some, None, unwrap_or, refl, sym, ap, ◌∙◌, subst, arith, ⊎_elim, length-drop}
use Rattle.std.specs.Arc.{arc_value}
use Rattle.std.proofs.lemmas.Bool.{cases_lt}
use Rattle.job_flow.specs.Outcomes.{ended}
use Rattle.job_rules.specs.Items as items
use Rattle.job_rules.specs.Items.{Prepared, compile_number, compile_rule, config_task, count, first_refusal, given_in, graph_of, job_graph, left_in, no_schedule, node_base, node_values, nodes_in, outcome, outcome_of, prepared_in, refusal_or, rule, trace_of, traces_in, values_in}
use Rattle.job_rules.specs.Words as words
use Rattle.job_rules.specs.Words.{Answer, Gives, Schedules, Refuses}
use Rattle.job_rules.proofs.Lawfully.{config_has_task}
use Rattle.nested_jobs.specs.Marks as mark
use Rattle.nested_jobs.specs.Marks.{Mark, Free, Busy, Open, Done}
use Rattle.nested_jobs.specs.Rules.{Task, Values, Work}
use Rattle.nested_jobs.specs.Steps.{is_settled}
use Rattle.pisdf_meaning.specs.Configuring.{configurations}
use Rattle.pisdf_meaning.specs.Nested.{configuration_at}
use Rattle.pisdf_meaning.specs.Running.{given_by}
use Rattle.pisdf_meaning.specs.Sound.{actor_at}
use Rattle.pisdf_meaning.specs.declared.firing.Firing.{Firing}
use Rattle.pisdf_meaning.specs.declared.firing.Given.{Given}
use Rattle.pisdf_meaning.specs.declared.refusal.Refusal.{Refusal}
use Rattle.pisdf_model.specs.declared.graph.Graph.{Graph}
use Rattle.sdf_level.specs.LevelRun.{Ended}
use Rattle.sdf_level.specs.declared.node.Node.{Node}
use Rattle.sdf_level.specs.declared.node.Node.TheVariants as node
use Rattle.single_rate.specs.Expanded.{place_of}
use Rattle.audit_job.specs.Ending.{IsSettledJob, refusal_in, traces_at}
use Rattle.audit_job.specs.Flowing.{flow_of, results_of}
use Rattle.audit_job.specs.Jobs.{AreNodes, IsCompileAnswer, IsJob, IsPrepared, IsUnscheduled, prepared_of}
use Rattle.audit_job.specs.Marks.{answers, mark_at}
use Rattle.audit_job.specs.declared.job.Job.{Job}
use Rattle.audit_job.specs.declared.job.Nodes.{Nodes}
use Rattle.audit_job.proofs.ConfigItems as config
use Rattle.audit_job.proofs.ItemRules.{count_is, item_there, rule_at}
use Rattle.audit_job.proofs.Leaving.{Gave, all_left}
use Rattle.audit_job.proofs.NodeFlow as nodes_flow
use Rattle.audit_job.proofs.Quieting.{each_below}

-- ---- items that are settled, and not refused

both_none : (o : Option Answer) (later : Option Refusal) → refusal_or o later ≡ None → (refusal_in o ≡ None) × (later ≡ None)
both_none None later is = (refl, is)
both_none (Some (Gives given)) later is = (refl, is)
both_none (Some (Schedules schedule)) later is = (refl, is)
both_none (Some (Refuses refusal)) later is = absurd (cc)

-- no refusal among these items
no_refusal : (v : Values Answer) (i n : ℕ) → first_refusal v i n ≡ None → (j : ℕ) → i ≤ j → j < i + n → refusal_in (v j) ≡ None
no_refusal v i zero none j low high = absurd (omega arith)
no_refusal v i (suc n) none j low high =
    let parts = both_none (v i) (first_refusal v (i + 1) n) none in
    ⊎_elim
    (λ (later : i < j). no_refusal v (i + 1) n parts.1 j (omega arith) (omega arith))
    (λ (here : j ≤ i). let e : j ≡ i = omega arith in ap (λ k. refusal_in (v k)) e ∙ parts.0)
    (cases_lt i j)

settled_task : (m : Mark Firing Answer) (t : Task Firing words.Work) → is_settled m (Some t) ≡ true → (a : Answer) × (mark.answer_of m ≡ Some a)
settled_task Free t is = absurd (cc)
settled_task Busy t is = absurd (cc)
settled_task (Open firing) t is = absurd (cc)
settled_task (Done answer) t is = (answer, refl)

gave_then : (a : Answer) → IsUnscheduled a → refusal_in (Some a) ≡ None → Gave (Some a)
gave_then (Gives given) un none = tt
gave_then (Schedules schedule) un none = absurd un
gave_then (Refuses refusal) un none = absurd (cc)

scheduled_then : (a : Answer) → IsCompileAnswer a → refusal_in (Some a) ≡ None → items.schedule_of (Some a) ≡ None → ⊥
scheduled_then (Gives given) is none un = is
scheduled_then (Schedules schedule) is none un = cc
scheduled_then (Refuses refusal) is none un = cc

module _ (graphs : List Graph) (workers : ℕ) (job : Job) (settled : IsSettledJob graphs workers job) (sound : first_refusal (answers job.marks.items) 0 (length job.marks.items) ≡ None) where
  abbrev g : Graph
  g = graph_of graphs job.firing

  abbrev v : Values Answer
  v = answers job.marks.items

  abbrev is : IsJob graphs workers job
  is = settled.is_job

  -- an item with a task has an answer, which refuses nothing
  answered : (i : ℕ) (t : Task Firing words.Work) → rule graphs job.firing v i ≡ Some t → (a : Answer) × (v i ≡ Some a) × (refusal_in (Some a) ≡ None)
  answered i t task =
      let there = item_there graphs job.firing v i t task in
      let all = each_below (count graphs job.firing v) (λ k. is_settled (mark_at job.marks.items k) (rule graphs job.firing v k)) settled.quiet i there in
      let one = settled_task (mark_at job.marks.items i) t (ap (is_settled (mark_at job.marks.items i)) (sym task) ∙ all) in
      let many = is.one_each in
      let none = no_refusal v 0 (length job.marks.items) sound i (omega arith) (omega arith) in
      (one.0, one.1, ap refusal_in (sym one.1) ∙ none)

  actor_gave : (i : ℕ) → i < compile_number g → Gave (v i)
  actor_gave i below =
      let many = is.places_are.one_each in
      let inside : i < length job.places.items = omega arith in
      let place = config.place graphs workers job is i inside in
      let task = config_has_task graphs g job.firing (configuration_at g i place) (actor_at g place).body (config.is_configuration graphs workers job is i inside).is in
      let one = answered i task.0 (config.rule_is graphs workers job is i inside v ∙ task.1) in
      let other : i ≢ compile_number g = λ same. omega arith in
      subst Gave (sym one.1) (gave_then one.0 (is.others i one.0 other one.1) one.2)

  -- so it is compiled
  never_unscheduled : items.schedule_of (v (compile_number g)) ≡ None → ⊥
  never_unscheduled none =
      let left = all_left v 0 (configurations g) (λ j low high. actor_gave j (omega arith)) in
      let one = answered (compile_number g) (Work (words.Compiles job.firing left.0)) (rule_at graphs job.firing v (compile_number g) refl ∙ ap (compile_rule job.firing) left.1) in
      scheduled_then one.0 (is.compiled one.0 one.1) one.2 (ap items.schedule_of (sym one.1) ∙ none)

  pub has_nodes : job.nodes ≡ None → ⊥
  has_nodes none = never_unscheduled (subst (λ (o : Option Nodes). IsPrepared graphs workers job.firing v o) none is.prepared)

  -- ---- what it gives

  module _ (nodes : Nodes) (nodes_are : job.nodes ≡ Some nodes) where
    so : IsPrepared graphs workers job.firing v (Some nodes)
    so = subst (λ (o : Option Nodes). IsPrepared graphs workers job.firing v o) nodes_are is.prepared

    pub are_nodes : AreNodes graphs workers job.firing v nodes
    are_nodes = so.1

    abbrev p : Prepared
    p = prepared_of nodes

    abbrev own : Values Answer
    own = answers (drop (length job.places.items + 1) job.marks.items)

    shifted : (n : ℕ) → own n ≡ v (node_base g + n)
    shifted n =
        let many = is.places_are.one_each in
        let e : length job.places.items + 1 + n ≡ node_base g + n = omega arith in
        nodes_flow.shifted job.marks.items (length job.places.items + 1) n ∙ ap v e

    -- as many marks as nodes
    pub marks_many : length (drop (length job.places.items + 1) job.marks.items) ≡ length (flow_of nodes).nodes
    marks_many =
        let many = is.one_each in
        let counted = count_is graphs job.firing v p so.0 in
        let places = is.places_are.one_each in
        let same = ap (λ (l : List Node). length l) (nodes_flow.nodes_are graphs workers job.firing nodes so.1.made) in
        let cut = length-drop (length job.places.items + 1) job.marks.items in
        omega arith

    traces_same : traces_at (flow_of nodes).nodes own ≡ traces_in graphs g job.firing p v
    traces_same = λ i a k.
        let same : trace_of (own (place_of (flow_of nodes).nodes (node.Firing a k))) ≡ trace_of (v (node_base g + place_of (nodes_in graphs g job.firing p) (node.Firing a k))) =
        ap (λ (l : List Node). trace_of (own (place_of l (node.Firing a k)))) (nodes_flow.nodes_are graphs workers job.firing nodes so.1.made) ∙ ap trace_of (shifted (place_of (nodes_in graphs g job.firing p) (node.Firing a k))) in
        same i

    ended_same : ended (flow_of nodes) (results_of (flow_of nodes).nodes nodes.keeps.items own) ≡ ended (job_graph graphs g job.firing p) (node_values graphs g job.firing p v)
    ended_same =
        let flow = nodes_flow.flow_is graphs workers job.firing nodes so.1.made in
        let results = nodes_flow.results_are graphs workers job.firing nodes so.1.made v own shifted in
        λ i. ended (flow i) (sym results i)

    pub gives_so : (given : Given) (end : Ended ℤ) → end ≡ ended (flow_of nodes) (results_of (flow_of nodes).nodes nodes.keeps.items own) →
        given ≡ given_by graphs g job.firing nodes.left.items nodes.values (arc_value nodes.compiled).counts (traces_at (flow_of nodes).nodes own) end → Gives given ≡ outcome graphs job.firing v
    gives_so given end end_is given_is =
        let values = nodes_flow.values_are graphs workers job.firing nodes so.1.made in
        let one : Gives given ≡ given_in graphs g job.firing v p = ap Gives given_is ∙ (λ i. Gives (given_by graphs g job.firing nodes.left.items (values i) (arc_value nodes.compiled).counts (traces_same i) ((end_is ∙ ended_same) i))) in
        let none : first_refusal v 0 (count graphs job.firing v) ≡ None = ap (first_refusal v 0) (sym is.one_each) ∙ sound in
        one ∙ sym (ap (outcome_of graphs g job.firing v) none ∙ ap (λ o. given_in graphs g job.firing v (unwrap_or o no_schedule)) so.0)

-- ---- a refusal

pub refuses_so : (graphs : List Graph) (workers : ℕ) (job : Job) → IsJob graphs workers job → (refusal : Refusal) → first_refusal (answers job.marks.items) 0 (length job.marks.items) ≡ Some refusal → Refuses refusal ≡ outcome graphs job.firing (answers job.marks.items)
refuses_so graphs workers job is refusal first =
    let one : first_refusal (answers job.marks.items) 0 (count graphs job.firing (answers job.marks.items)) ≡ Some refusal = ap (first_refusal (answers job.marks.items) 0) (sym is.one_each) ∙ first in
    sym (ap (outcome_of graphs (graph_of graphs job.firing) job.firing (answers job.marks.items)) one)
