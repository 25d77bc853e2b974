-- The fields of the compilation of a firing.
use Rattle.std.specs.Prelude.{◌≡◌, ℕ, ◌≤◌, [], slice_get, Option, Some, None}
use Rattle.std.specs.Option.{option_map}
use Rattle.std.specs.Arc.{arc_value}
use Rattle.pisdf_model.specs.Valid.{AreValid}
use Rattle.param_resolver.specs.EarlyCheck.{early_faults}
use Rattle.pisdf_meaning.specs.Configuring.{early_in}
use Rattle.job_rules.specs.Items.{graph_of}
use Rattle.job_preparing.specs.CompileTasks.{CompileView, IsEndOf, IsReadyFor}
use Rattle.job_preparing.specs.Slim.{slim_firing, slim_left}
use Rattle.job_preparing.specs.View.{HasInherited, key_of}
use Rattle.job_preparing.specs.declared.compile_task.KeptTask.{KeptTask}
use Rattle.job_preparing.specs.declared.compile_task.Parts.{Parts}
use Rattle.job_preparing.specs.declared.compile_task.Way.{Way}
use Rattle.job_preparing.specs.declared.compile_task.Way.TheVariants.{Kept, Make}
use Rattle.job_preparing.specs.declared.compiling.CompileEnd.{CompileEnd}

-- the graph is there that the firing names
abbrev pub IsThere : CompileView → Type 0
IsThere v = slice_get v.graphs.graphs v.firing.graph ≡ Some (graph_of v.graphs.graphs v.firing)

-- it ends the compilation of this firing
abbrev pub EndsTask : CompileView → CompileEnd → Type 0
EndsTask v end = IsEndOf v.graphs.graphs v.workers v.firing v.left end

-- ---- a level that is made

abbrev pub task_view : Parts → CompileView
task_view i = record {
  graphs = arc_value i.graphs;
  workers = i.workers;
  firing = i.whole.value;
  left = i.told;
  kept = option_map arc_value i.kept;
}

pub record IsTask (i : Parts) : Type 0 where
  pub valid : AreValid (arc_value i.graphs)
  pub here : IsThere (task_view i)
  pub sound : early_faults (arc_value i.graphs).graphs i.whole.value.graph i.whole.value.inherited ≡ []
  pub early_is : i.early ≡ early_in (arc_value i.graphs).graphs i.whole.value
  pub some_worker : 1 ≤ i.workers
  pub firing_is : i.firing ≡ slim_firing i.whole.value
  pub left_is : i.left.items ≡ slim_left i.told
  pub key_is : i.key ≡ key_of (graph_of (arc_value i.graphs).graphs i.whole.value) i.workers i.whole.value i.told
  pub inherited : HasInherited (arc_value i.graphs).graphs i.whole.value

-- ---- a level that is kept

abbrev pub kept_view : KeptTask → CompileView
kept_view i = record {
  graphs = arc_value i.graphs.value;
  workers = i.workers.value;
  firing = i.whole.value;
  left = i.told;
  kept = Some (arc_value (arc_value i.level).made.compiled);
}

pub record IsKeptTask (i : KeptTask) : Type 0 where
  pub here : IsThere (kept_view i)
  pub ready : IsReadyFor (arc_value i.graphs.value).graphs i.workers.value i.whole.value i.told (arc_value i.level)

-- ---- either

abbrev pub way_view : Way → CompileView
way_view (Kept task) = kept_view task
way_view (Make parts) = task_view parts.value

abbrev pub IsWay : Way → Type 0
IsWay (Kept task) = IsKeptTask task
IsWay (Make parts) = IsTask parts.value
