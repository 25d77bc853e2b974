-- What flows between the nodes of a job, as its marks tell it.
use Rattle.std.specs.Prelude.{◌≡◌, ℕ, ◌<◌, ◌++◌, ◌==◌, ◌&&◌, ℤ, Bool, List, [], length, slice_index_or, Option, Some, None, if◌then◌else◌}
use Rattle.std.specs.Arc.{arc_value}
use Rattle.std.specs.Option.{option_map}
use Rattle.job_flow.specs.Frames as flow
use Rattle.job_flow.specs.Graphs.{JobGraph, node_at}
use Rattle.job_rules.specs.Items.{node_result}
use Rattle.job_rules.specs.Words as words
use Rattle.nested_jobs.specs.Rules.{Values}
use Rattle.pisdf_meaning.specs.declared.refusal.Refusal.{Refusal}
use Rattle.sdf_level.specs.Lists.{lists_of}
use Rattle.sdf_level.specs.declared.node.Node.{Node}
use Rattle.sdf_level.specs.declared.node.Node.TheVariants as node
use Rattle.sdf_level.specs.declared.single_rate.Edge.{Edge}
use Rattle.audit_job.specs.Wires.{keeps_in}
use Rattle.audit_job.specs.declared.job.Nodes.{Nodes}

-- what each node wrote or refused, where the nodes answered this
abbrev pub results_of : List Node → List Bool → Values words.Answer → flow.Values ℤ Refusal
results_of nodes keeps v n = option_map (node_result (keeps_in keeps (node_at nodes n))) (v n)

-- the graph of a job that is compiled
abbrev pub flow_of : Nodes → JobGraph ℤ
flow_of job = record {
  level = job.set.level;
  nodes = (arc_value job.compiled).graph.nodes;
  edges = (arc_value job.compiled).graph.edges;
  sources = job.sources;
  delays = lists_of job.starts.items;
}

-- the list of each port has what stood on the edge besides, if the edge leads to that port of the node
pub record Arrives (v : flow.Values ℤ Refusal) (edge : Edge) (n : ℕ) (old new : List (List ℤ)) : Type 0 where
  pub same_length : length new ≡ length old
  pub each : (port : ℕ) → port < length old →
      slice_index_or new port [] ≡ slice_index_or old port [] ++ (if (edge.head == n) && (edge.head_port == port) then flow.on_edge v edge else [])

-- the stored tokens that a node reads, if it reads such
abbrev pub stored_in : JobGraph ℤ → Node → Option (List ℤ)
stored_in job (node.Source s) = Some (slice_index_or job.sources s [])
stored_in job (node.Init l) = Some (slice_index_or job.delays l [])
stored_in job (node.Firing a k) = None
stored_in job (node.End l) = None
stored_in job (node.Sink t) = None
stored_in job (node.Broadcast l) = None
stored_in job (node.Fork l i) = None
stored_in job (node.Join l j) = None
stored_in job (node.Round l) = None
