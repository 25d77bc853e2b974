-- The compiled job of the top graph in the first iteration of a run.
use Rattle.std.specs.Prelude.{◌≡◌, ◌⊎◌, ℕ, ℤ, List, Some, None, Result, Ok, Err}
use Rattle.job_compiler.specs.Compilation.{Compilation, IsCompiled}
use Rattle.level_schedule.specs.Schedules.{IsUnscheduled}
use Rattle.level_schedule.specs.declared.unscheduled.Unscheduled.{Unscheduled}
use Rattle.param_resolver.specs.Numbering.{acting}
use Rattle.param_resolver.specs.declared.level_set.LevelSet.{LevelSet}
use Rattle.pisdf_model.specs.Hold.{initial}
use Rattle.pisdf_model.specs.declared.graph.Graph.{Graph}
use Rattle.pisdf_model.specs.declared.graph.Graphs.{Graphs}
use Rattle.pisdf_meaning.specs.Causes.{schedule_cause}
use Rattle.pisdf_meaning.specs.Run.{taken, top_needs}
use Rattle.pisdf_meaning.specs.TopLevel.{IsTopLevel, TopLevelRefused}
use Rattle.pisdf_meaning.specs.declared.refusal.Cause.{Cause}
use Rattle.pisdf_meaning.specs.declared.refusal.Refusal.{Refusal}
use Rattle.sdf_level.specs.View.{LevelView}
use Rattle.quiescent_driver.specs.Iterated.{Checks}
use Rattle.quiescent_driver.specs.declared.stop.Stop.{Stop}
use Rattle.quiescent_driver.specs.declared.stop.Stop.TheVariants.{Short, Refused, Memory}

-- the job, or why there is none
abbrev pub JobEnd : Type 0
JobEnd = Result Compilation Stop

-- a level is compiled for so many workers
pub record IsJobOf (level : LevelView) (workers : ℕ) (job : Compilation) : Type 0 where
  pub compiled : IsCompiled job
  pub level_is : job.level ≡ level
  pub workers_is : job.workers ≡ workers

-- a refusal at the path of the top graph
abbrev pub at_top : Graph → Cause → Refusal
at_top top cause = record { path = top.name; cause = cause }

-- a level of the top graph is compiled for so many workers, or refused for the first fault of its schedule
abbrev pub Compiles : Graph → ℕ → LevelView → JobEnd → Type 0
Compiles top workers level (Ok job) = IsJobOf level workers job
Compiles top workers level (Err (Short stream has needs)) = ⊥
Compiles top workers level (Err (Refused refusal)) = (fault : Unscheduled) × IsUnscheduled level fault × (refusal ≡ at_top top (schedule_cause (acting top) fault))
Compiles top workers level (Err Memory) = ⊥

-- the inputs of the first iteration
abbrev pub first_inputs : Graphs → List (List ℤ) → List (List ℤ)
first_inputs graphs streams = taken (top_needs graphs) streams

-- the first iteration, from its early check on, leads to this level
pub record FindsLevel (graphs : Graphs) (streams : List (List ℤ)) (set : LevelSet) : Type 0 where
  pub checks : Checks graphs streams (Ok None)
  pub level : IsTopLevel graphs (first_inputs graphs streams) (initial graphs.graphs graphs.top) set

-- or its configuration actors, parameters or rates are refused
pub record FindsNoLevel (graphs : Graphs) (streams : List (List ℤ)) (refusal : Refusal) : Type 0 where
  pub checks : Checks graphs streams (Ok None)
  pub refused : TopLevelRefused graphs (first_inputs graphs streams) (initial graphs.graphs graphs.top) refusal

-- it leads to a level, which is compiled or refused so
abbrev pub CompilesLevel : Graphs → List (List ℤ) → ℕ → JobEnd → Type 0
CompilesLevel graphs streams workers end = (set : LevelSet) × (found : FindsLevel graphs streams set) × Compiles found.checks.top workers set.level end

-- how the way to the job of the first iteration ends: with the job, or where an iteration of a run ends before its level is run
abbrev pub EndsJob : Graphs → List (List ℤ) → ℕ → JobEnd → Type 0
EndsJob graphs streams workers (Ok job) = CompilesLevel graphs streams workers (Ok job)
EndsJob graphs streams workers (Err (Short stream has needs)) = Checks graphs streams (Ok (Some record { stream = stream; has = has; needs = needs }))
EndsJob graphs streams workers (Err (Refused refusal)) =
    Checks graphs streams (Err refusal) ⊎ FindsNoLevel graphs streams refusal ⊎ CompilesLevel graphs streams workers (Err (Refused refusal))
EndsJob graphs streams workers (Err Memory) = ⊥
