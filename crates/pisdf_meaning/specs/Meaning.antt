-- What one thread gets from one firing of a graph (Desnos and others 2013, PiMM; Lee and Messerschmitt 1987).
use Rattle.std.specs.Prelude.{◌≡◌, ℕ, zero, suc, List, slice_get, Some, Result}
use Rattle.pisdf_model.specs.Nesting.{nesting_limit}
use Rattle.pisdf_model.specs.declared.graph.Graph.{Graph}
use Rattle.level_schedule.specs.declared.scheduling.LevelSchedule.{LevelSchedule}
use Rattle.pisdf_meaning.specs.Configuring.{Configures}
use Rattle.pisdf_meaning.specs.Endings.{End, Ends, Then}
use Rattle.pisdf_meaning.specs.Preparing.{resolved, rated, level_in, Schedules}
use Rattle.pisdf_meaning.specs.Running.{RunsLevel}
use Rattle.pisdf_meaning.specs.declared.firing.Configured.{Configured}
use Rattle.pisdf_meaning.specs.declared.firing.Firing.{Firing}
use Rattle.pisdf_meaning.specs.declared.refusal.Refusal.{Refusal}

-- one firing of a graph ends so, where `ends` says how firings of the graphs that it holds end: the configuration actors
-- fire, then parameters and rates are worked out, then the level is scheduled and run; the first refusal ends it
abbrev pub FiresGraph : List Graph → Ends → Graph → Firing → End → Type 0
FiresGraph graphs ends g firing end =
    (all : Result (List Configured) Refusal) × Configures graphs ends g firing all ×
    Then (λ configured end. Then (λ values end. Then (λ values end.
    (schedule : Result LevelSchedule Refusal) × Schedules g firing (level_in graphs g firing values) schedule ×
    Then (λ s end. RunsLevel graphs ends g firing configured values s.counts end) schedule end)
    (rated graphs g firing values) end)
    (resolved graphs g firing configured) end) all end

-- over n graphs nested in each other
abbrev pub MeansWithin : ℕ → List Graph → Ends
MeansWithin zero graphs firing end = ⊥
MeansWithin (suc n) graphs firing end = (g : Graph) × (slice_get graphs firing.graph ≡ Some g) × FiresGraph graphs (MeansWithin n graphs) g firing end

-- over as many graphs as may be nested in each other
abbrev pub Means : List Graph → Ends
Means graphs firing end = MeansWithin nesting_limit graphs firing end
