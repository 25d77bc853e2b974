-- Graphs whose iterations can be fired as one: each firing of an iteration is then a firing of the greater one.
use Rattle.std.specs.Prelude.{◌≡◌, ℕ, ◌*◌, ◌≤◌, ℤ, false, List, [], slice_get, Some}
use Rattle.std.specs.List.{All}
use Rattle.level_laws.specs.Unfolded.{IsExactLevel, multiplied}
use Rattle.level_schedule.specs.Schedules.{IsScheduled}
use Rattle.level_schedule.specs.declared.scheduling.LevelSchedule.{LevelSchedule}
use Rattle.param_resolver.specs.EarlyCheck.{early_faults, early_numbers, early_of}
use Rattle.param_resolver.specs.LevelOf.{level_at, level_faults}
use Rattle.pisdf_model.specs.InterfaceWires.{is_configuration}
use Rattle.pisdf_model.specs.declared.actor.Actor.{Actor}
use Rattle.pisdf_model.specs.declared.fifo.Fifo.{Fifo}
use Rattle.pisdf_model.specs.declared.fifo.Life.TheVariants.{Firing}
use Rattle.pisdf_model.specs.declared.graph.Graph.{Graph}
use Rattle.pisdf_model.specs.declared.graph.Graphs.{Graphs}
use Rattle.sdf_level.specs.Invariants.{rate_limit}
use Rattle.sdf_level.specs.Limits.{IsWithinLimits}
use Rattle.sdf_level.specs.View.{LevelView}

-- the values of the parameters of a graph that inherits none and has no configuration actor
abbrev pub own_values : Graph → List ℤ
own_values g = early_numbers g []

-- the level of the top graph, where it has no configuration actor
abbrev pub top_level : Graphs → Graph → LevelView
top_level graphs top = level_at graphs.graphs top (early_of graphs.graphs graphs.top []) (own_values top)

-- So many times this schedule of a level is one: each component takes and gives just the tokens of its sources and sinks, and
-- so many times the counts are within the limits.
pub record IsExactSchedule (level : LevelView) (times : ℕ) (schedule : LevelSchedule) : Type 0 where
  pub scheduled : IsScheduled level schedule
  pub exact : IsExactLevel level schedule.counts
  pub within : IsWithinLimits level (multiplied times schedule.counts)

-- no token stands in the FIFO anew at each firing of its graph
abbrev pub BeginsOnce : Fifo → Type 0
BeginsOnce f = f.life ≡ Firing → f.delay ≡ []

-- So many iterations of the graphs can be fired as one. The top graph has no configuration actor and no delay that starts anew
-- at each firing. Its early check, its rates and its schedule refuse nothing, so many times that schedule is one, and so many
-- times the rate of each of its interfaces is a rate.
pub record IsExact (graphs : Graphs) (times : ℕ) : Type 0 where
  pub top : Graph
  pub top_is : slice_get graphs.graphs graphs.top ≡ Some top
  pub configures_nothing : All (λ (a : Actor). is_configuration a.body ≡ false) top.actors
  pub begins_once : All BeginsOnce top.fifos
  pub early : early_faults graphs.graphs graphs.top [] ≡ []
  pub rates : level_faults graphs.graphs top (own_values top) ≡ []
  pub schedule : LevelSchedule
  pub is_exact : IsExactSchedule (top_level graphs top) times schedule
  pub inputs : All (λ r. times * r ≤ rate_limit) (early_of graphs.graphs graphs.top []).inputs
  pub outputs : All (λ r. times * r ≤ rate_limit) (early_of graphs.graphs graphs.top []).outputs
