-- The causes where the level of the top graph can't be compiled.
use Rattle.std.specs.Prelude.{◌≡◌, ◌⊎◌}
use Rattle.level_schedule.specs.declared.unscheduled.Unscheduled.{Unscheduled}
use Rattle.level_schedule.specs.declared.unscheduled.Unscheduled.TheVariants as unscheduled
use Rattle.param_resolver.specs.Numbering.{acting}
use Rattle.pisdf_meaning.specs.Causes.{schedule_cause}
use Rattle.pisdf_model.specs.declared.graph.Graph.{Graph}
use Rattle.pisdf_program.specs.Job.{at_top}
use Rattle.quiescent_driver.specs.declared.stop.Stop.{Stop}
use Rattle.quiescent_driver.specs.declared.stop.Stop.TheVariants.{Refused, Memory}

-- where the level of the top graph has no schedule it is refused with this cause
abbrev pub IsLeftTo : Graph → Unscheduled → Stop → Type 0
IsLeftTo top unscheduled.Memory end = end ≡ Memory
IsLeftTo top fault end = (end ≡ Refused (at_top top (schedule_cause (acting top) fault))) ⊎ (end ≡ Memory)
