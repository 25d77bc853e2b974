-- Nodes as items of their job.
use Rattle.std.proofs.Common.{◌≡◌, ℕ, ℤ, ◌+◌, length, Option, Some, sym, ap, ◌∙◌}
use Rattle.std.specs.Option.{option_map}
use Rattle.nested_jobs.specs.Marks as mark
use Rattle.nested_jobs.specs.Rules.{Task}
use Rattle.job_flow.specs.Frames as flow
use Rattle.job_flow.specs.Graphs.{node_at}
use Rattle.pisdf_model.specs.declared.graph.Graph.{Graph}
use Rattle.pisdf_model.specs.declared.graph.Graphs.{Graphs}
use Rattle.pisdf_meaning.specs.declared.firing.Firing.{Firing}
use Rattle.pisdf_meaning.specs.declared.refusal.Refusal.{Refusal}
use Rattle.job_rules.specs.Words as words
use Rattle.job_rules.specs.Items.{actor_of, compile_number, graph_of, keeps_state, node_base, node_result, node_values, nodes_in, prepared_by, prepared_in, ready_task, schedule_of}
use Rattle.job_preparing.specs.Handing.{answers, mark_at}
use Rattle.job_preparing.specs.View as preparing
use Rattle.job_preparing.specs.View.{ConfiguringView}
use Rattle.graph_firing.specs.Nodes.View as running
use Rattle.graph_firing.specs.Nodes.View.{RunningView}
use Rattle.graph_firing.specs.View.{IsOfferedCall, IsOfferedWork, OpenView, answered, count_of, task}
use Rattle.graph_firing.specs.Invariants.{compile_mark, view_with}
use Rattle.graph_firing.specs.Running.{RunsFor}
use Rattle.graph_firing.specs.declared.stage.Stage.TheVariants.{Nodes}
use Rattle.graph_firing.proofs.Cut.{same_function}
use Rattle.graph_firing.proofs.Early as early
use Rattle.graph_firing.proofs.Rules as rules

module _ (c : ConfiguringView) (workers : ℕ) (r : RunningView) (long : length c.marks ≡ compile_number (preparing.graph_in c)) (runs : RunsFor c workers r) where
  abbrev pub v : OpenView
  v = view_with c workers (Nodes r)

  abbrev pub g : Graph
  g = preparing.graph_in c

  -- the job is prepared so
  prepared_of : prepared_by (preparing.left_if_ready c) (schedule_of (mark.answer_of (compile_mark (Nodes r)))) ≡ Some r.prepared
  prepared_of = ap (λ o. prepared_by o (Some r.prepared.schedule)) runs.left_is

  pub prepared_is : prepared_in g (answered v) ≡ Some r.prepared
  prepared_is = rules.prepared_so c.graphs.graphs c.firing c.marks (compile_mark (Nodes r)) r.marks long r.prepared prepared_of

  pub count_is : count_of v ≡ node_base g + length (nodes_in c.graphs.graphs g c.firing r.prepared)
  count_is = rules.count_is c.graphs.graphs c.firing c.marks (compile_mark (Nodes r)) r.marks long r.prepared prepared_of

  -- ---- what the nodes are to do

  -- by their own answers
  abbrev pub own_values : Graphs → Firing → flow.Values ℤ Refusal
  own_values graphs firing n = option_map (node_result (keeps_state graphs.graphs (actor_of (graph_of graphs.graphs firing) (node_at (nodes_in graphs.graphs (graph_of graphs.graphs firing) firing r.prepared) n)))) (answers r.marks n)

  abbrev own_task : ℕ → Graphs → Firing → Option (Task Firing words.Work)
  own_task n graphs firing = ready_task graphs.graphs (graph_of graphs.graphs firing) firing r.prepared (own_values graphs firing) n

  pub values_are : node_values c.graphs.graphs g c.firing r.prepared (answered v) ≡ own_values c.graphs c.firing
  values_are = same_function (node_values c.graphs.graphs g c.firing r.prepared (answered v)) (own_values c.graphs c.firing)
      (λ n. ap (option_map (node_result (keeps_state c.graphs.graphs (actor_of g (node_at (nodes_in c.graphs.graphs g c.firing r.prepared) n))))) (rules.answer_after c.graphs.graphs c.firing c.marks (compile_mark (Nodes r)) r.marks long n))

  task_same : (n : ℕ) → own_task n c.graphs c.firing ≡ running.task r n
  task_same n = λ i. own_task n (sym runs.graphs_are i) (sym runs.firing_is i)

  pub task_of_node : (n : ℕ) → task v (node_base g + n) ≡ running.task r n
  task_of_node n =
      rules.node_task_is c.graphs.graphs c.firing c.marks (compile_mark (Nodes r)) r.marks long r.prepared prepared_of n
      ∙ ap (λ values. ready_task c.graphs.graphs g c.firing r.prepared values n) values_are
      ∙ task_same n

  pub mark_of_node : (n : ℕ) → mark_at v.marks (node_base g + n) ≡ mark_at r.marks n
  mark_of_node n = early.mark_after c workers (Nodes r) long n

  -- ---- what is offered

  pub work_of_node : (n : ℕ) → running.IsOfferedWork r n → IsOfferedWork v (node_base g + n)
  work_of_node n offered = record { free = mark_of_node n ∙ offered.free; work = offered.work; task_is = task_of_node n ∙ offered.task_is }

  pub node_of_work : (n : ℕ) → IsOfferedWork v (node_base g + n) → running.IsOfferedWork r n
  node_of_work n offered = record { free = sym (mark_of_node n) ∙ offered.free; work = offered.work; task_is = sym (task_of_node n) ∙ offered.task_is }

  pub call_of_node : (n : ℕ) → running.IsOfferedCall r n → IsOfferedCall v (node_base g + n)
  call_of_node n offered = record { free = mark_of_node n ∙ offered.free; job = offered.job; task_is = task_of_node n ∙ offered.task_is }

  pub node_of_call : (n : ℕ) → IsOfferedCall v (node_base g + n) → running.IsOfferedCall r n
  node_of_call n offered = record { free = sym (mark_of_node n) ∙ offered.free; job = offered.job; task_is = sym (task_of_node n) ∙ offered.task_is }
