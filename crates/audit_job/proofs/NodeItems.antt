-- The nodes of a job, as its items.
use Rattle.std.proofs.Common.{◌≡◌, ℕ, ◌+◌, ◌-◌, ◌<◌, ◌≤◌, List, All, length, length-drop, drop, map, take, take_all, Option, Some, sym, ap, ◌∙◌, subst, arith}
use Rattle.std.specs.Arc.{arc_value}
use Rattle.std.proofs.lemmas.List.Elements.{All-weaker}
use Rattle.job_rules.specs.Items.{graph_of, node_base, node_values, rule}
use Rattle.job_rules.specs.Words as words
use Rattle.job_rules.specs.Words.{Answer}
use Rattle.nested_jobs.specs.Rules.{Task, Values}
use Rattle.param_resolver.specs.Numbering.{acting, has_state}
use Rattle.pisdf_meaning.specs.TopLevel.{IsLevelSet}
use Rattle.pisdf_meaning.specs.declared.firing.Firing.{Firing}
use Rattle.pisdf_model.specs.declared.graph.Graph.{Graph}
use Rattle.sdf_level.specs.declared.node.Node.{Node}
use Rattle.sdf_level.specs.declared.single_rate.Edge.{Edge}
use Rattle.audit_job.specs.Flowing.{flow_of}
use Rattle.audit_job.specs.Jobs.{IsJob, IsPrepared, prepared_of}
use Rattle.audit_job.specs.Marks.{answers}
use Rattle.audit_job.specs.Working.{task_at}
use Rattle.audit_job.specs.declared.answer.Mark.{Mark}
use Rattle.audit_job.specs.declared.job.Job.{Job}
use Rattle.audit_job.specs.declared.job.Nodes.{Nodes}
use Rattle.audit_job.proofs.ItemRules.{count_is, node_inside, node_task_is}
use Rattle.audit_job.proofs.NodeFlow as flow

-- a slice to the end
pub tail_is : (marks : List Mark) (k : ℕ) → take (length marks - k) (drop k marks) ≡ drop k marks
tail_is marks k = let cut = length-drop k marks in take_all (length marks - k) (drop k marks) (omega arith)

module _ (graphs : List Graph) (workers : ℕ) (job : Job) (is : IsJob graphs workers job) (nodes : Nodes) (nodes_are : job.nodes ≡ Some nodes) where
  abbrev g : Graph
  g = graph_of graphs job.firing

  abbrev v : Values Answer
  v = answers job.marks.items

  abbrev own : Values Answer
  own = answers (drop (length job.places.items + 1) job.marks.items)

  pub so : IsPrepared graphs workers job.firing v (Some nodes)
  so = subst (λ (o : Option Nodes). IsPrepared graphs workers job.firing v o) nodes_are is.prepared

  shifted : (n : ℕ) → own n ≡ v (node_base g + n)
  shifted n =
      let many = is.places_are.one_each in
      let e : length job.places.items + 1 + n ≡ node_base g + n = omega arith in
      flow.shifted job.marks.items (length job.places.items + 1) n ∙ ap v e

  pub set_is : IsLevelSet graphs g job.firing nodes.values nodes.set
  set_is = so.1.made.ready.set_is

  pub ends : All (λ (e : Edge). e.tail < length (flow_of nodes).nodes) (flow_of nodes).edges
  ends = All-weaker (λ (e : Edge). (e.tail < length (arc_value nodes.compiled).graph.nodes) × (e.head < length (arc_value nodes.compiled).graph.nodes)) (λ (e : Edge). e.tail < length (arc_value nodes.compiled).graph.nodes) (λ e both. both.0) (arc_value nodes.compiled).graph.edges so.1.made.ready.compiled.expanded.sound.ends

  -- as many marks as nodes
  pub marks_many : length (drop (length job.places.items + 1) job.marks.items) ≡ length (flow_of nodes).nodes
  marks_many =
      let many = is.one_each in
      let counted = count_is graphs job.firing v (prepared_of nodes) so.0 in
      let places = is.places_are.one_each in
      let same = ap (λ (l : List Node). length l) (flow.nodes_are graphs workers job.firing nodes so.1.made) in
      let cut = length-drop (length job.places.items + 1) job.marks.items in
      omega arith

  module _ (i : ℕ) (after : length job.places.items < i) (t : Task Firing words.Work) (task : rule graphs job.firing v i ≡ Some t) where
    number_is : i ≡ node_base g + (i - length job.places.items - 1)
    number_is = let m = is.places_are.one_each in omega arith

    pub task_is : task_at graphs g job.firing nodes own (i - length job.places.items - 1) ≡ Some t
    task_is = flow.ready_is graphs workers job.firing nodes so.1.made v own shifted (i - length job.places.items - 1) t
        (sym (node_task_is graphs job.firing v (prepared_of nodes) so.0 i (i - length job.places.items - 1) number_is) ∙ task)

    pub task_same : task_at graphs g job.firing nodes own (i - length job.places.items - 1) ≡ rule graphs job.firing v i
    task_same = task_is ∙ sym task

    pub inside : i - length job.places.items - 1 < length (flow_of nodes).nodes
    inside =
        let there = node_inside graphs g job.firing (prepared_of nodes) (node_values graphs g job.firing (prepared_of nodes) v) (i - length job.places.items - 1) t
        (sym (node_task_is graphs job.firing v (prepared_of nodes) so.0 i (i - length job.places.items - 1) number_is) ∙ task) in
        let same = ap (λ (l : List Node). length l) (flow.nodes_are graphs workers job.firing nodes so.1.made) in
        omega arith

    -- the same, where the graphs, the graph and the marks of the nodes are told by other names
    module _ (all : List Graph) (all_are : all ≡ graphs) (own_graph : Graph) (same : own_graph ≡ g) (marks : List Mark) (marks_are : marks ≡ drop (length job.places.items + 1) job.marks.items) where
      abbrev n : ℕ
      n = i - length job.places.items - 1

      pub own_set : IsLevelSet all own_graph job.firing nodes.values nodes.set
      own_set = subst (λ (x : Graph). IsLevelSet all x job.firing nodes.values nodes.set) (sym same) (subst (λ (l : List Graph). IsLevelSet l g job.firing nodes.values nodes.set) (sym all_are) set_is)

      pub own_keeps : nodes.keeps.items ≡ map (has_state all) (acting own_graph)
      own_keeps = so.1.made.keeps_are ∙ (λ k. map (has_state (sym all_are k)) (acting (sym same k)))

      pub own_marks : length (flow_of nodes).nodes ≤ length marks
      own_marks = let many = marks_many in let long = ap (λ (l : List Mark). length l) marks_are in omega arith

      pub own_task : task_at all own_graph job.firing nodes (answers marks) n ≡ rule graphs job.firing v i
      own_task = (λ k. task_at (all_are k) (same k) job.firing nodes (answers (marks_are k)) n) ∙ task_same

      pub own_is : task_at all own_graph job.firing nodes (answers marks) n ≡ Some t
      own_is = own_task ∙ task
