-- How the path of a job goes on that an item calls.
use Rattle.std.specs.Prelude.{◌≡◌, ℕ, ◌-◌, nat_lt, List, Option, Some, None, slice_index, if◌then◌else◌}
use Rattle.nested_jobs.specs.Rules.{Call}
use Rattle.pisdf_model.specs.declared.graph.Graph.{Graph}
use Rattle.pisdf_meaning.specs.declared.firing.Firing.{Firing}
use Rattle.job_flow.specs.Graphs.{node_at}
use Rattle.job_rules.specs.Items.{Prepared, compile_number, node_base, nodes_in, prepared_in}
use Rattle.job_rules.specs.Items.{step_of_node}
use Rattle.graph_firing.specs.Places.{config_places}
use Rattle.graph_firing.specs.View.{OpenView, answered, graph_in, task}

-- the actor of an item by its place among all actors of the graph, and the number of its firing, by what is known once the job
-- is compiled. A configuration actor fires once, with number 0
abbrev pub step_of_item : List Graph → Graph → Firing → ℕ → Option Prepared → ℕ × ℕ
step_of_item graphs g firing i None = (slice_index (config_places g) i, 0)
step_of_item graphs g firing i (Some p) =
    if nat_lt i (compile_number g) then (slice_index (config_places g) i, 0)
    else step_of_node g (node_at (nodes_in graphs g firing p) (i - node_base g))

abbrev pub step_of : OpenView → ℕ → ℕ × ℕ
step_of v i = step_of_item v.graphs.graphs (graph_in v) v.firing i (prepared_in (graph_in v) (answered v))

-- the item is to call a job
pub record IsCall (v : OpenView) (i : ℕ) : Type 0 where
  pub job : Firing
  pub task_is : task v i ≡ Some (Call job)
