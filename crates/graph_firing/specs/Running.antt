-- The nodes of a job, beside its configuration actors.
use Rattle.std.specs.Prelude.{◌≡◌, ℕ, [], length, Some}
use Rattle.job_compiler.specs.Compilation.{IsMapped}
use Rattle.job_preparing.specs.View as preparing
use Rattle.job_preparing.specs.View.{ConfiguringView}
use Rattle.graph_firing.specs.Nodes.View.{RunningView}
use Rattle.job_rules.specs.Items.{edges_in, nodes_in}

-- the nodes are those of the firing, with what its configuration actors left
pub record RunsFor (c : ConfiguringView) (workers : ℕ) (r : RunningView) : Type 0 where
  pub graphs_are : r.graphs ≡ c.graphs
  pub workers_are : r.workers ≡ workers
  pub firing_is : r.firing ≡ c.firing
  pub left_is : preparing.left_if_ready c ≡ Some r.prepared.left
  pub marks_many : length r.marks ≡ length (nodes_in c.graphs.graphs (preparing.graph_in c) c.firing r.prepared)
  pub lent_many : length r.lent ≡ length (nodes_in c.graphs.graphs (preparing.graph_in c) c.firing r.prepared)
  pub mapped : IsMapped record { nodes = nodes_in c.graphs.graphs (preparing.graph_in c) c.firing r.prepared; edges = edges_in c.graphs.graphs (preparing.graph_in c) c.firing r.prepared; ranks = [] } workers r.mapping
