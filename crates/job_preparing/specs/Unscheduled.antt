-- Why the level of a firing has no schedule.
use Rattle.std.specs.Prelude.{◌≡◌}
use Rattle.level_schedule.specs.Schedules.{IsUnscheduled}
use Rattle.level_schedule.specs.declared.unscheduled.Unscheduled.{Unscheduled}
use Rattle.param_resolver.specs.Numbering.{acting}
use Rattle.pisdf_meaning.specs.Causes.{schedule_cause}
use Rattle.pisdf_meaning.specs.declared.firing.Firing.{Firing}
use Rattle.pisdf_meaning.specs.declared.refusal.Refusal.{Refusal}
use Rattle.pisdf_model.specs.declared.graph.Graph.{Graph}
use Rattle.sdf_level.specs.View.{LevelView}

-- the firing is refused so, whose level has no schedule
pub record IsUnscheduledAs (g : Graph) (firing : Firing) (level : LevelView) (refusal : Refusal) : Type 0 where
  pub fault : Unscheduled
  pub unscheduled : IsUnscheduled level fault
  pub refusal_is : refusal ≡ record { path = firing.path; cause = schedule_cause (acting g) fault }
