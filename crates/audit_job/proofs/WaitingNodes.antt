-- What the nodes of a job are to do, by what they wait for.
use Rattle.std.proofs.Common.{◌≡◌, ◌≢◌, ℕ, ◌<◌, ◌≤◌, List, length, Option, None, ap, arith}
use Rattle.std.specs.Prelude.{slice_index}
use Rattle.std.specs.Arc.{arc_value}
use Rattle.job_flow.specs.Frames.{inputs, lens}
use Rattle.job_flow.specs.Graphs.{node_at}
use Rattle.job_rules.specs.Items.{graph_of, job_graph, node_task, node_values, nodes_in, ready_task, values_in}
use Rattle.job_rules.specs.Words as words
use Rattle.job_rules.specs.Words.{Answer}
use Rattle.nested_jobs.specs.Rules.{Task, Values}
use Rattle.pisdf_meaning.specs.declared.firing.Firing.{Firing}
use Rattle.pisdf_model.specs.declared.graph.Graph.{Graph}
use Rattle.sdf_level.specs.declared.node.Node.{Node}
use Rattle.audit_job.specs.Jobs.{AreNodes, prepared_of}
use Rattle.audit_job.specs.declared.job.Nodes.{Nodes}
use Rattle.audit_job.proofs.NodeFlow as flow
use Rattle.audit_job.proofs.Readiness.{past_none, ready_task_is, waits_none}

module _ (graphs : List Graph) (workers : ℕ) (firing : Firing) (v : Values Answer) (nodes : Nodes) (are : AreNodes graphs workers firing v nodes) (n : ℕ) where
  abbrev g : Graph
  g = graph_of graphs firing

  abbrev ready : Option (Task Firing words.Work)
  ready = ready_task graphs g firing (prepared_of nodes) (node_values graphs g firing (prepared_of nodes) v) n

  pub past : length nodes.waits.items ≤ n → ready ≡ None
  past after = let many = are.made.one_each in past_none graphs g firing (prepared_of nodes) (node_values graphs g firing (prepared_of nodes) v) n (omega arith)

  pub waits : n < length nodes.waits.items → slice_index nodes.waits.items n ≢ 0 → ready ≡ None
  waits inside some = let is = are.waits_are n inside in waits_none graphs g firing (prepared_of nodes) (node_values graphs g firing (prepared_of nodes) v) n (omega (arith, some))

  pub free : n < length nodes.waits.items → slice_index nodes.waits.items n ≡ 0 →
      ready ≡ node_task graphs g firing (values_in g firing (prepared_of nodes)) (node_at (nodes_in graphs g firing (prepared_of nodes)) n) (inputs (job_graph graphs g firing (prepared_of nodes)) (node_values graphs g firing (prepared_of nodes) v) n) (lens (job_graph graphs g firing (prepared_of nodes)) n)
  free inside none = let many = are.made.one_each in let is = are.waits_are n inside in ready_task_is graphs g firing (prepared_of nodes) (node_values graphs g firing (prepared_of nodes) v) n (omega arith) (omega arith)

  pub node_inside : n < length nodes.waits.items → n < length (arc_value nodes.compiled).graph.nodes
  node_inside inside =
      let many = are.made.one_each in
      let same = ap (λ (l : List Node). length l) (flow.nodes_are graphs workers firing nodes are.made) in
      omega arith
