-- The configuration actors of one firing of a graph, as plain data.
use Rattle.std.specs.Prelude.{◌≡◌, ℕ, ◌<◌, ◌++◌, ℤ, List, [], map, length, slice_get, Option, Some, None, IsSome, unwrap_or}
use Rattle.job_compiler.specs.declared.key.Key.{Key}
use Rattle.nested_jobs.specs.Marks.{Free}
use Rattle.nested_jobs.specs.Rules.{Task, Work, Call}
use Rattle.pisdf_model.specs.Ports.{inherited_count}
use Rattle.pisdf_model.specs.declared.graph.Graph.{Graph}
use Rattle.pisdf_model.specs.declared.graph.Graphs.{Graphs}
use Rattle.pisdf_meaning.specs.Configuring.{Configuration, configurations}
use Rattle.pisdf_meaning.specs.Preparing.{chosen_values}
use Rattle.pisdf_meaning.specs.declared.firing.Configured.{Configured}
use Rattle.pisdf_meaning.specs.declared.firing.Firing.{Firing}
use Rattle.job_rules.specs.Items.{compile_number, config_task, graph_of, left_in}
use Rattle.job_rules.specs.Words as words
use Rattle.job_preparing.specs.Handing.{ItemMarks, Lent, answers, mark_at}

-- the graphs, the firing, and where each configuration actor stands, by its number among them
pub record ConfiguringView : Type 0 where
  pub graphs : Graphs
  pub firing : Firing
  pub marks : ItemMarks
  pub lent : Lent

-- the firing gives each inherited parameter of its graph a value
pub record HasInherited (graphs : List Graph) (firing : Firing) : Type 0 where
  pub one_each : length firing.inherited ≡ inherited_count (slice_get graphs firing.graph)

-- the graph that is fired
abbrev pub graph_in : ConfiguringView → Graph
graph_in v = graph_of v.graphs.graphs v.firing

-- ---- tasks

abbrev pub task_of : List Graph → Graph → Firing → Option Configuration → Option (Task Firing words.Work)
task_of graphs g firing None = None
task_of graphs g firing (Some c) = config_task graphs g firing c c.body

-- what the configuration actor with this number is to do
abbrev pub task : ConfiguringView → ℕ → Option (Task Firing words.Work)
task v c = task_of v.graphs.graphs (graph_in v) v.firing (slice_get (configurations (graph_in v)) c)

-- it is free, and fires a kernel
pub record IsOfferedWork (v : ConfiguringView) (c : ℕ) : Type 0 where
  pub free : mark_at v.marks c ≡ Free
  pub work : words.Work
  pub task_is : task v c ≡ Some (Work work)

-- it is free, and fires a graph
pub record IsOfferedCall (v : ConfiguringView) (c : ℕ) : Type 0 where
  pub free : mark_at v.marks c ≡ Free
  pub job : Firing
  pub task_is : task v c ≡ Some (Call job)

-- ---- once they are finished

-- what all left, where each gave something
abbrev pub left_if_ready : ConfiguringView → Option (List Configured)
left_if_ready v = left_in (graph_in v) (answers v.marks)

-- each gave something
abbrev pub IsReady : ConfiguringView → Type 0
IsReady v = IsSome (left_if_ready v)

-- what they left then
abbrev pub left_by : ConfiguringView → List Configured
left_by v = unwrap_or (left_if_ready v) []

-- each gave something or was refused
pub record IsSettled (v : ConfiguringView) : Type 0 where
  pub each : (c : ℕ) → c < compile_number (graph_in v) → IsSome (answers v.marks c)

-- ---- compilations

-- what the compilation of a firing is kept by
abbrev pub key_of : Graph → ℕ → Firing → List Configured → Key
key_of g workers firing left = record { graph = firing.graph; workers = workers; values = firing.inherited ++ chosen_values g left }
