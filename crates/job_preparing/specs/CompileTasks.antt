-- The compilation of a firing, apart from its job.
use Rattle.std.specs.Prelude.{◌≡◌, ℕ, ℤ, List, [], Option, Some, None, Ok}
use Rattle.std.specs.Arc.{arc_value}
use Rattle.job_compiler.specs.Compilation.{Compilation, IsCompiled}
use Rattle.param_resolver.specs.declared.level_set.LevelSet.{LevelSet}
use Rattle.pisdf_model.specs.declared.graph.Graph.{Graph}
use Rattle.pisdf_model.specs.declared.graph.Graphs.{Graphs}
use Rattle.pisdf_meaning.specs.Preparing.{rated, resolved}
use Rattle.pisdf_meaning.specs.TopLevel.{IsLevelSet}
use Rattle.pisdf_meaning.specs.declared.firing.Configured.{Configured}
use Rattle.pisdf_meaning.specs.declared.firing.Firing.{Firing}
use Rattle.level_schedule.specs.declared.scheduling.LevelSchedule.{LevelSchedule}
use Rattle.job_rules.specs.Doing as doing
use Rattle.job_rules.specs.Items.{graph_of}
use Rattle.job_rules.specs.Words as words
use Rattle.job_preparing.specs.View.{HasInherited, key_of}
use Rattle.job_preparing.specs.declared.compiling.CompileEnd.{CompileEnd}
use Rattle.job_preparing.specs.declared.compiling.CompileEnd.TheVariants.{Ready, Refused, Memory}
use Rattle.job_preparing.specs.declared.compiling.Made.{Made}
use Rattle.job_preparing.specs.declared.compiling.ReadyLevel.{ReadyLevel}

-- the firing, what its configuration actors left, and a compilation of its graph that is kept by the key of this firing
pub record CompileView : Type 0 where
  pub graphs : Graphs
  pub workers : ℕ
  pub firing : Firing
  pub left : List Configured
  pub kept : Option Compilation

-- the parameters have these values, this is the level of the graph with them, and this its compilation for the workers
pub record IsReadyWith (graphs : List Graph) (workers : ℕ) (firing : Firing) (left : List Configured) (compilation : Compilation) (set : LevelSet) (values : List ℤ) : Type 0 where
  pub values_are : resolved graphs (graph_of graphs firing) firing left ≡ Ok values
  pub rated_so : rated graphs (graph_of graphs firing) firing values ≡ Ok values
  pub set_is : IsLevelSet graphs (graph_of graphs firing) firing values set
  pub compiled : IsCompiled compilation
  pub level_is : compilation.level ≡ set.level
  pub workers_are : compilation.workers ≡ workers

abbrev pub IsMadeAs : List Graph → ℕ → Firing → List Configured → Made → Type 0
IsMadeAs graphs workers firing left made = IsReadyWith graphs workers firing left (arc_value made.compiled) made.set made.values

-- it is made for this firing, and has its key
pub record IsReadyFor (graphs : List Graph) (workers : ℕ) (firing : Firing) (left : List Configured) (level : ReadyLevel) : Type 0 where
  pub made : IsMadeAs graphs workers firing left level.made
  pub key : level.key ≡ key_of (graph_of graphs firing) workers firing left
  pub inherited : HasInherited graphs firing

-- the schedule in a compilation
abbrev pub schedule_of : Compilation → LevelSchedule
schedule_of c = record { counts = c.counts; order = c.order }

-- how the compilation of a firing ends whose configuration actors left this; want of memory says nothing
abbrev pub IsEndOf : List Graph → ℕ → Firing → List Configured → CompileEnd → Type 0
IsEndOf graphs workers firing left (Ready level) = IsReadyFor graphs workers firing left (arc_value level)
IsEndOf graphs workers firing left (Refused cause) = doing.IsCompiled graphs firing left (words.Refuses record { path = firing.path; cause = cause })
IsEndOf graphs workers firing left Memory = Unit {0}

-- it ends with this compilation, this level and these values
abbrev pub IsReadyAs : Compilation → LevelSet → List ℤ → CompileEnd → Type 0
IsReadyAs c set values (Ready level) = (arc_value (arc_value level).made.compiled ≡ c) × ((arc_value level).made.set ≡ set) × ((arc_value level).made.values ≡ values)
IsReadyAs c set values (Refused cause) = ⊥
IsReadyAs c set values Memory = ⊥
