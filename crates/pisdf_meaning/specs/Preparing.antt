-- From what the configuration actors leave to the level that is run, and its schedule.
use Rattle.std.specs.Prelude.{◌≡◌, ℕ, ◌+◌, ◌==◌, Option, ℤ, pos, List, [], ◌∷◌, ◌++◌, map, zip, Result, Ok, Err, if◌then◌else◌}
use Rattle.pisdf_model.specs.Ports.{sets_of}
use Rattle.pisdf_model.specs.declared.graph.Graph.{Graph}
use Rattle.pisdf_model.specs.declared.param.Param.{Param}
use Rattle.pisdf_model.specs.declared.param.ParamKind.{ParamKind}
use Rattle.pisdf_model.specs.declared.param.ParamKind.TheVariants.{Inherited, Derived, Chosen}
use Rattle.sdf_level.specs.View.{LevelView}
use Rattle.level_schedule.specs.Schedules.{IsScheduled, IsUnscheduled}
use Rattle.level_schedule.specs.declared.scheduling.LevelSchedule.{LevelSchedule}
use Rattle.level_schedule.specs.declared.unscheduled.Unscheduled.{Unscheduled}
use Rattle.param_resolver.specs.Assignment.{supplied_to, numbers, param_faults, values_of}
use Rattle.param_resolver.specs.EarlyCheck.{as_refusal}
use Rattle.param_resolver.specs.LevelOf.{level_at, level_faults}
use Rattle.param_resolver.specs.Numbering.{acting}
use Rattle.pisdf_meaning.specs.Causes.{unless_refused, schedule_cause}
use Rattle.pisdf_meaning.specs.Configuring.{Configuration, configurations, early_in}
use Rattle.pisdf_meaning.specs.declared.firing.Configured.{Configured}
use Rattle.pisdf_meaning.specs.declared.firing.Firing.{Firing}
use Rattle.pisdf_meaning.specs.declared.refusal.Refusal.{Refusal}

-- ---- the chosen parameters

-- the values that the first of these sets
abbrev pub first_sets : List Configured → List ℤ
first_sets [] = []
first_sets (one ∷ left) = one.sets

-- each parameter that a configuration actor sets, by its place, with its value
abbrev pub values_set : List Configuration → List Configured → List (ℕ × ℤ)
values_set [] left = []
values_set (c ∷ cs) [] = []
values_set (c ∷ cs) (one ∷ left) = zip (sets_of c.body) one.sets ++ values_set cs left

-- the value that the parameter at a place is set to
abbrev pub value_set : List (ℕ × ℤ) → ℕ → ℤ
value_set [] place = pos 0
value_set (set ∷ sets) place = if set.0 == place then set.1 else value_set sets place

abbrev pub chosen_next : List (ℕ × ℤ) → ℕ → ParamKind → List ℤ
chosen_next sets place Inherited = []
chosen_next sets place (Derived expr) = []
chosen_next sets place Chosen = value_set sets place ∷ []

-- the values of the chosen ones among these parameters, the first of which stands at this place
abbrev pub chosen_from : List (ℕ × ℤ) → ℕ → List Param → List ℤ
chosen_from sets place [] = []
chosen_from sets place (p ∷ params) = chosen_next sets place p.kind ++ chosen_from sets (place + 1) params

abbrev pub chosen_values : Graph → List Configured → List ℤ
chosen_values g left = chosen_from (values_set (configurations g) left) 0 g.params

-- ---- the values of all parameters, and the rates

abbrev pub supplied_values : Graph → Firing → List Configured → List (Option ℤ)
supplied_values g firing left = supplied_to g.params firing.inherited (chosen_values g left)

-- what each parameter comes to, or the refusal of the first that has no value within its range
abbrev pub resolved : List Graph → Graph → Firing → List Configured → Result (List ℤ) Refusal
resolved graphs g firing left = unless_refused graphs g firing.path (map as_refusal (param_faults g.params (supplied_values g firing left))) (numbers (values_of g.params (supplied_values g firing left)))

-- the same, or the refusal of the first rate or argument of its level
abbrev pub rated : List Graph → Graph → Firing → List ℤ → Result (List ℤ) Refusal
rated graphs g firing values = unless_refused graphs g firing.path (level_faults graphs g values) values

abbrev pub level_in : List Graph → Graph → Firing → List ℤ → LevelView
level_in graphs g firing values = level_at graphs g (early_in graphs firing) values

-- ---- the schedule

-- the level is scheduled so, or refused so
abbrev pub Schedules : Graph → Firing → LevelView → Result LevelSchedule Refusal → Type 0
Schedules g firing level (Ok s) = IsScheduled level s
Schedules g firing level (Err refusal) = (fault : Unscheduled) × IsUnscheduled level fault × (refusal ≡ record { path = firing.path; cause = schedule_cause (acting g) fault })
