-- What flows between the nodes of a job, by their own marks.
use Rattle.std.proofs.Common.{◌≡◌, ℕ, zero, suc, ◌+◌, ◌&&◌, nat_lt, Bool, false, ℤ, List, [], ◌∷◌, length, map, drop, get_or, slice_get, Some, refl, sym, ap, ◌∙◌}
use Rattle.std.specs.Arc.{arc_value}
use Rattle.std.specs.Option.{option_map}
use Rattle.std.proofs.lemmas.List.{get_or-drop}
use Rattle.job_flow.specs.Frames as flow
use Rattle.job_flow.specs.Frames.{inputs, lens}
use Rattle.job_flow.specs.Graphs.{node_at}
use Rattle.job_rules.specs.Items.{actor_of, edges_in, graph_of, is_ready_by, job_graph, keeps_state, level_of, node_base, node_result, node_task, node_values, nodes_in, ready_task, values_in}
use Rattle.job_rules.specs.Words as words
use Rattle.job_rules.specs.Words.{Answer}
use Rattle.job_rules.proofs.Parts.{passed}
use Rattle.nested_jobs.specs.Marks as mark
use Rattle.nested_jobs.specs.Rules.{Task, Values}
use Rattle.param_resolver.specs.Numbering.{acting, has_state}
use Rattle.pisdf_meaning.specs.Preparing.{level_in}
use Rattle.pisdf_meaning.specs.declared.firing.Firing.{Firing}
use Rattle.pisdf_meaning.specs.declared.refusal.Refusal.{Refusal}
use Rattle.pisdf_model.specs.declared.actor.Actor.{Actor}
use Rattle.pisdf_model.specs.declared.graph.Graph.{Graph}
use Rattle.sdf_level.specs.declared.node.Node.{Node}
use Rattle.sdf_level.specs.declared.node.Node.TheVariants as node
use Rattle.audit_job.specs.Flowing.{flow_of, results_of}
use Rattle.audit_job.specs.Jobs.{IsMadeOf, prepared_of}
use Rattle.audit_job.specs.Marks.{answers, mark_of}
use Rattle.audit_job.specs.Wires.{keeps_in}
use Rattle.audit_job.specs.Working.{task_at}
use Rattle.audit_job.specs.declared.answer.Mark.{Mark}
use Rattle.audit_job.specs.declared.answer.Mark.TheVariants as stands
use Rattle.audit_job.specs.declared.job.Nodes.{Nodes}
use Rattle.job_preparing.proofs.Compiled as compiled

-- the answers of the items from a number on
pub shifted : (marks : List Mark) (k n : ℕ) → answers (drop k marks) n ≡ answers marks (k + n)
shifted marks k n = ap (λ m. mark.answer_of (mark_of m)) (get_or-drop k marks n stands.Free)

keeps_at : (graphs : List Graph) (all : List Actor) (a : ℕ) → keeps_state graphs (slice_get all a) ≡ get_or (map (has_state graphs) all) a false
keeps_at graphs [] a = refl
keeps_at graphs (x ∷ all) zero = refl
keeps_at graphs (x ∷ all) (suc a) = keeps_at graphs all a

module _ (graphs : List Graph) (g : Graph) (keeps : List Bool) (are : keeps ≡ map (has_state graphs) (acting g)) where
  pub keeps_same : (x : Node) → keeps_state graphs (actor_of g x) ≡ keeps_in keeps x
  keeps_same (node.Source s) = refl
  keeps_same (node.Init l) = refl
  keeps_same (node.Firing a k) = keeps_at graphs (acting g) a ∙ ap (λ l. get_or l a false) (sym are)
  keeps_same (node.Broadcast l) = refl
  keeps_same (node.Fork l i) = refl
  keeps_same (node.Join l j) = refl
  keeps_same (node.Round l) = refl
  keeps_same (node.End l) = refl
  keeps_same (node.Sink t) = refl

module _ (graphs : List Graph) (workers : ℕ) (firing : Firing) (nodes : Nodes) (made : IsMadeOf graphs workers firing nodes) where
  abbrev g : Graph
  g = graph_of graphs firing

  pub values_are : nodes.values ≡ values_in g firing (prepared_of nodes)
  values_are = compiled.values_are graphs workers firing nodes.left.items (arc_value nodes.compiled) nodes.set nodes.values made.ready

  pub nodes_are : (arc_value nodes.compiled).graph.nodes ≡ nodes_in graphs g firing (prepared_of nodes)
  nodes_are = compiled.nodes_are graphs workers firing nodes.left.items (arc_value nodes.compiled) nodes.set nodes.values made.ready

  pub edges_are : (arc_value nodes.compiled).graph.edges ≡ edges_in graphs g firing (prepared_of nodes)
  edges_are = compiled.edges_are graphs workers firing nodes.left.items (arc_value nodes.compiled) nodes.set nodes.values made.ready

  level_is : nodes.set.level ≡ level_of graphs g firing (prepared_of nodes)
  level_is = made.ready.set_is.level ∙ ap (level_in graphs g firing) values_are

  -- the graph of the job
  pub flow_is : flow_of nodes ≡ job_graph graphs g firing (prepared_of nodes)
  flow_is = λ i. record { level = level_is i; nodes = nodes_are i; edges = edges_are i; sources = made.sources_are i; delays = made.starts_are i }

  module _ (v own : Values Answer) (same : (n : ℕ) → own n ≡ v (node_base g + n)) where
    abbrev results : flow.Values ℤ Refusal
    results = results_of (flow_of nodes).nodes nodes.keeps.items own

    -- what each node wrote or refused
    value_at : (n : ℕ) → node_values graphs g firing (prepared_of nodes) v n ≡ results n
    value_at n =
        let K : keeps_state graphs (actor_of g (node_at (nodes_in graphs g firing (prepared_of nodes)) n)) ≡ keeps_in nodes.keeps.items (node_at (flow_of nodes).nodes n) =
        keeps_same graphs g nodes.keeps.items made.keeps_are (node_at (nodes_in graphs g firing (prepared_of nodes)) n) ∙ ap (λ (l : List Node). keeps_in nodes.keeps.items (node_at l n)) (sym nodes_are) in
        λ i. option_map (node_result (K i)) (sym (same n) i)

    pub results_are : node_values graphs g firing (prepared_of nodes) v ≡ results
    results_are = λ i n. value_at n i

    -- what a node is to do that has a task
    pub task_same : (n : ℕ) →
        node_task graphs g firing (values_in g firing (prepared_of nodes)) (node_at (nodes_in graphs g firing (prepared_of nodes)) n) (inputs (job_graph graphs g firing (prepared_of nodes)) (node_values graphs g firing (prepared_of nodes) v) n) (lens (job_graph graphs g firing (prepared_of nodes)) n)
        ≡ task_at graphs g firing nodes own n
    task_same n = λ i. node_task graphs g firing (sym values_are i) (node_at (sym flow_is i).nodes n) (inputs (sym flow_is i) (results_are i) n) (lens (sym flow_is i) n)

    pub ready_is : (n : ℕ) (t : Task Firing words.Work) → ready_task graphs g firing (prepared_of nodes) (node_values graphs g firing (prepared_of nodes) v) n ≡ Some t → task_at graphs g firing nodes own n ≡ Some t
    ready_is n t is =
        let parts = passed (nat_lt n (length (nodes_in graphs g firing (prepared_of nodes))) && is_ready_by (edges_in graphs g firing (prepared_of nodes)) (node_values graphs g firing (prepared_of nodes) v) n) _ t is in
        sym (task_same n) ∙ parts.is
