-- What is worked out of a graph's level before its run.
use Rattle.std.specs.Prelude.{◌≡◌, ◌⊎◌, ℤ, List, Ok, Err}
use Rattle.level_schedule.specs.Schedules.{IsScheduled}
use Rattle.pisdf_model.specs.declared.graph.Graph.{Graph}
use Rattle.pisdf_meaning.specs.Prepared.{IsPrepared}
use Rattle.pisdf_meaning.specs.Preparing.{Schedules, level_in, rated, resolved}
use Rattle.pisdf_meaning.specs.Running.{source_tokens}
use Rattle.pisdf_meaning.specs.declared.firing.Configured.{Configured}
use Rattle.pisdf_meaning.specs.declared.firing.Firing.{Firing}
use Rattle.pisdf_meaning.specs.declared.planning.Planned.{Planned}
use Rattle.pisdf_meaning.specs.declared.refusal.Refusal.{Refusal}

-- this is the level of a firing whose configuration actors left that, with its schedule
pub record IsPlanned (graphs : List Graph) (g : Graph) (firing : Firing) (configured : List Configured) (p : Planned) : Type 0 where
  pub values : Ok p.prepared.values ≡ resolved graphs g firing configured
  pub rates : rated graphs g firing p.prepared.values ≡ Ok p.prepared.values
  pub prepared : IsPrepared graphs g firing p.prepared
  pub sources : p.prepared.sources ≡ source_tokens g firing configured
  pub schedule : IsScheduled p.prepared.parts.level p.schedule

-- a rate or an argument of the level refuses the firing, whose parameters have these values, or its schedule does
abbrev pub LevelRefused : List Graph → Graph → Firing → List ℤ → Refusal → Type 0
LevelRefused graphs g firing values refusal =
    (rated graphs g firing values ≡ Err refusal) ⊎ ((rated graphs g firing values ≡ Ok values) × Schedules g firing (level_in graphs g firing values) (Err refusal))

-- a parameter refuses the firing, or its level does
abbrev pub PlanRefused : List Graph → Graph → Firing → List Configured → Refusal → Type 0
PlanRefused graphs g firing configured refusal =
    (Err refusal ≡ resolved graphs g firing configured) ⊎ ((values : List ℤ) × (Ok values ≡ resolved graphs g firing configured) × LevelRefused graphs g firing values refusal)
