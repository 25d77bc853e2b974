-- The nodes of one compiled firing as plain data, and what they are to do.
use Rattle.std.specs.Prelude.{◌≡◌, ℕ, ℤ, Bool, List, length, Option, Some, None, Ok, Err}
use Rattle.std.specs.Option.{option_map}
use Rattle.kernel_gate.specs.declared.room.RoomSize.{RoomSize}
use Rattle.nested_jobs.specs.Marks.{Free}
use Rattle.nested_jobs.specs.Rules.{Task, Work, Call}
use Rattle.nested_jobs.specs.Steps.{all_below, is_settled}
use Rattle.pisdf_model.specs.declared.graph.Graph.{Graph}
use Rattle.pisdf_model.specs.declared.graph.Graphs.{Graphs}
use Rattle.pisdf_meaning.specs.Endings.{End}
use Rattle.pisdf_meaning.specs.Running.{Traces, given_by}
use Rattle.pisdf_meaning.specs.declared.firing.Firing.{Firing}
use Rattle.pisdf_meaning.specs.declared.firing.Given.{Given}
use Rattle.pisdf_meaning.specs.declared.refusal.Refusal.{Refusal}
use Rattle.sdf_level.specs.declared.node.Node.{Node}
use Rattle.sdf_level.specs.declared.node.Node.TheVariants as node
use Rattle.single_rate.specs.Expanded.{place_of}
use Rattle.worker_mapping.specs.declared.mapping.Mapping.{Mapping}
use Rattle.job_flow.specs.Frames as flow
use Rattle.job_flow.specs.Graphs.{JobGraph, node_at}
use Rattle.job_flow.specs.Outcomes.{ended}
use Rattle.one_job.specs.Leased.{JobCells}
use Rattle.job_rules.specs.Items.{Prepared, actor_of, first_refusal, graph_of, job_graph, keeps_state, node_result, nodes_in, ready_task, trace_of, values_in}
use Rattle.job_rules.specs.Words as words
use Rattle.job_preparing.specs.Handing.{ItemMarks, Lent, answers, mark_at}

-- the firing, what its configuration actors left and its schedule, where its cells lie, as much memory as the frame of any node
-- takes, the homes and priorities of its nodes, and where each node stands, by its number
pub record RunningView : Type 0 where
  pub graphs : Graphs
  pub workers : ℕ
  pub firing : Firing
  pub prepared : Prepared
  pub mapping : Mapping
  pub cells : JobCells
  pub room : RoomSize
  pub marks : ItemMarks
  pub lent : Lent

-- the graph that is fired, and its nodes
abbrev pub graph_in : RunningView → Graph
graph_in v = graph_of v.graphs.graphs v.firing

abbrev pub nodes_of : RunningView → List Node
nodes_of v = nodes_in v.graphs.graphs (graph_in v) v.firing v.prepared

abbrev pub job_of : RunningView → JobGraph ℤ
job_of v = job_graph v.graphs.graphs (graph_in v) v.firing v.prepared

-- ---- tasks

-- what the nodes are finished with that are
abbrev pub results : List Graph → Graph → List Node → ItemMarks → flow.Values ℤ Refusal
results graphs g nodes marks n = option_map (node_result (keeps_state graphs (actor_of g (node_at nodes n)))) (answers marks n)

abbrev pub node_values_of : RunningView → flow.Values ℤ Refusal
node_values_of v n = results v.graphs.graphs (graph_in v) (nodes_of v) v.marks n

-- what the node with this number is to do
abbrev pub task : RunningView → ℕ → Option (Task Firing words.Work)
task v n = ready_task v.graphs.graphs (graph_in v) v.firing v.prepared (node_values_of v) n

-- it is free, and has work of its own
pub record IsOfferedWork (v : RunningView) (n : ℕ) : Type 0 where
  pub free : mark_at v.marks n ≡ Free
  pub work : words.Work
  pub task_is : task v n ≡ Some (Work work)

-- it is free, and fires a graph
pub record IsOfferedCall (v : RunningView) (n : ℕ) : Type 0 where
  pub free : mark_at v.marks n ≡ Free
  pub job : Firing
  pub task_is : task v n ≡ Some (Call job)

-- ---- how it ends

-- nothing more will come of any node
abbrev pub is_quiet : RunningView → Bool
is_quiet v = all_below (length (nodes_of v)) (λ n. is_settled (mark_at v.marks n) (task v n))

-- the trace of each firing of each actor
abbrev pub traces_of : RunningView → Traces
traces_of v a k = trace_of (answers v.marks (place_of (nodes_of v) (node.Firing a k)))

-- what the firing gives, where no node is refused
abbrev pub given_in : RunningView → Given
given_in v = given_by v.graphs.graphs (graph_in v) v.firing v.prepared.left (values_in (graph_in v) v.firing v.prepared) v.prepared.schedule.counts (traces_of v) (ended (job_of v) (node_values_of v))

abbrev pub end_with : RunningView → Option Refusal → End
end_with v None = Ok (given_in v)
end_with v (Some refusal) = Err refusal

-- the refusal of the least number, else what the firing gives
abbrev pub outcome_of : RunningView → End
outcome_of v = end_with v (first_refusal (answers v.marks) 0 (length (nodes_of v)))
