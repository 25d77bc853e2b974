-- What the nodes of a firing are at its start.
use Rattle.std.specs.Prelude.{◌≡◌, ℕ, ◌+◌, ◌≤◌, ℤ, List, [], map, length, replicate, Option, None, Vec, vec_capacity, vec_len}
use Rattle.std.specs.Global.{Global}
use Rattle.split_block.specs.View.{Block}
use Rattle.kernel_gate.specs.Value.{lengths}
use Rattle.kernel_gate.specs.declared.room.RoomSize.{RoomSize}
use Rattle.job_compiler.specs.Compilation.{Compilation}
use Rattle.nested_jobs.specs.Marks.{Free}
use Rattle.param_resolver.specs.LevelOf.{sources_of}
use Rattle.param_resolver.specs.Numbering.{acting, has_state}
use Rattle.param_resolver.specs.declared.level_set.LevelSet.{LevelSet}
use Rattle.pisdf_model.specs.declared.actor.Actor.{Actor}
use Rattle.pisdf_model.specs.declared.graph.Graph.{Graph}
use Rattle.pisdf_model.specs.declared.graph.Graphs.{Graphs}
use Rattle.pisdf_meaning.specs.Configuring.{early_in}
use Rattle.pisdf_meaning.specs.Running.{chosen_rows, link_starts, source_tokens, value_at}
use Rattle.pisdf_meaning.specs.declared.firing.Configured.{Configured}
use Rattle.pisdf_meaning.specs.declared.firing.Firing.{Firing}
use Rattle.pisdf_meaning.specs.declared.outcome.TraceRow.{TraceRow}
use Rattle.job_preparing.specs.View.{ConfiguringView, graph_in, left_by}
use Rattle.graph_firing.specs.Nodes.Invariants.{view_with}
use Rattle.graph_firing.specs.Nodes.Parts.{Fixed, KeepsAll, call_count, kind_of_actor, row_at}
use Rattle.graph_firing.specs.Nodes.View.{nodes_of}
use Rattle.graph_firing.specs.declared.nodes.starting.JobLists.{JobLists}
use Rattle.graph_firing.specs.declared.nodes.starting.OwnParts.{OwnParts}
use Rattle.graph_firing.specs.declared.nodes.starting.StartParts.{StartParts}

-- what the job of leases is started with, whose configuration actors are ready
pub record AreJobLists (v : ConfiguringView) (set : LevelSet) (lists : JobLists) : Type 0 where
  pub kinds_are : lists.kinds ≡ map kind_of_actor (acting (graph_in v))
  pub args_are : lists.args ≡ set.args
  pub sources_are : lists.sources ≡ source_tokens (graph_in v) v.firing (left_by v)
  pub sources_long : lengths lists.sources ≡ sources_of (graph_in v) (early_in v.graphs.graphs v.firing)
  pub stored_are : lists.stored ≡ link_starts v.graphs.graphs (graph_in v) v.firing

-- what a firing with this path and these values of the parameters keeps beside its job
pub record AreOwnParts (graphs : List Graph) (g : Graph) (path : List ℕ) (values : List ℤ) (own : OwnParts) : Type 0 where
  pub path_is : own.path ≡ path
  pub keeps_are : own.ending.keeps.items ≡ map (has_state graphs) (acting g)
  pub names_are : own.names.items ≡ map (λ (a : Actor). a.name) (acting g)
  pub rows_are : own.ending.rows ≡ chosen_rows path values 0 g.params
  pub exports_are : own.ending.exports ≡ map (value_at values) g.exports
  pub empty : own.ending.state.items ≡ []
  pub none : vec_len own.ending.state ≡ 0
  pub room : length g.fifos + length g.actors ≤ vec_capacity own.ending.state

-- a trace of no rows for each firing of each actor that calls graphs
pub record AreNoTraces (kinds : List (Option ℕ)) (counts : List ℕ) (rows : List (Vec (List TraceRow) Global)) : Type 0 where
  pub one_each : length rows ≡ length counts
  pub each : (a : ℕ) → row_at rows a ≡ replicate (call_count kinds counts a) []

-- what stays as it is while a firing with these parts runs
abbrev pub fixed_from : Graphs → Firing → List Configured → ℕ → Compilation → LevelSet → OwnParts → Block → RoomSize → Fixed
fixed_from graphs firing left place compilation set own block room = record {
  graphs = graphs;
  firing = firing;
  left = left;
  compilation = compilation;
  block = block;
  room = room;
  set = set;
  place = place;
  path = own.path;
  keeps = own.ending.keeps.items;
  names = own.names.items;
  rows = own.ending.rows;
  exports = own.ending.exports;
  state = own.ending.state;
}

-- the same of one whose configuration actors are ready
abbrev pub fixed_by : ConfiguringView → Compilation → LevelSet → StartParts → Fixed
fixed_by v compilation set parts = fixed_from v.graphs v.firing (left_by v) v.firing.graph compilation set parts.own parts.started.job.block parts.started.job.room

-- with these parts the nodes are there, each is free, and nothing is lent of it
pub record Starts (f : Fixed) (parts : StartParts) : Type 0 where
  pub keeps : KeepsAll f parts.started.stages parts.started.held.items parts.own.ending.traces.items parts.started.job
  pub free : (view_with f parts.started.stages).marks ≡ replicate (length (nodes_of (view_with f parts.started.stages))) Free
  pub nothing : (view_with f parts.started.stages).lent ≡ replicate (length (nodes_of (view_with f parts.started.stages))) None
