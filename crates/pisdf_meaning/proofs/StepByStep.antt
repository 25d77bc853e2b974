-- A firing of a graph step by step.
use Rattle.std.proofs.Common.{◌≡◌, ℤ, List, Result, Ok, Err, refl, ap, sym, ◌∙◌, subst}
use Rattle.level_schedule.specs.Schedules.{IsScheduled}
use Rattle.level_schedule.specs.declared.scheduling.LevelSchedule.{LevelSchedule}
use Rattle.pisdf_model.specs.declared.graph.Graph.{Graph}
use Rattle.sdf_level.specs.View.{LevelView}
use Rattle.sdf_level.specs.Firings.{actors_of}
use Rattle.sdf_level.specs.LevelRun.{Ended, IsLevelRun, end_of}
use Rattle.pisdf_meaning.specs.Configuring.{Configures}
use Rattle.pisdf_meaning.specs.Endings.{End, Ends, Then}
use Rattle.pisdf_meaning.specs.Meaning.{FiresGraph}
use Rattle.pisdf_meaning.specs.Nested.{actor_fires}
use Rattle.pisdf_meaning.specs.Preparing.{resolved, rated, level_in, Schedules}
use Rattle.pisdf_meaning.specs.Running.{Fires, Traces, HaveRows, RunsLevel, given_by, link_starts, source_tokens, traces_below}
use Rattle.pisdf_meaning.specs.Turns.{HasRun, MeetsRefusal}
use Rattle.pisdf_meaning.specs.declared.firing.Configured.{Configured}
use Rattle.pisdf_meaning.specs.declared.firing.Firing.{Firing}
use Rattle.pisdf_meaning.specs.declared.firing.Given.{Given}
use Rattle.pisdf_meaning.specs.declared.outcome.TraceRow.{TraceRow}
use Rattle.pisdf_meaning.specs.declared.refusal.Refusal.{Refusal}

module _ (graphs : List Graph) (ends : Ends) (g : Graph) (firing : Firing) where
  -- ---- refused

  pub refused_configuring : (refusal : Refusal) → Configures graphs ends g firing (Err refusal) → FiresGraph graphs ends g firing (Err refusal)
  refused_configuring refusal all = (Err refusal, all, refl)

  module _ (configured : List Configured) (all : Configures graphs ends g firing (Ok configured)) where
    abbrev AfterRates : List ℤ → End → Type 0
    AfterRates values end =
        (schedule : Result LevelSchedule Refusal) × Schedules g firing (level_in graphs g firing values) schedule ×
        Then (λ s end. RunsLevel graphs ends g firing configured values s.counts end) schedule end

    abbrev AfterValues : List ℤ → End → Type 0
    AfterValues values end = Then AfterRates (rated graphs g firing values) end

    pub refused_resolving : (refusal : Refusal) → Err refusal ≡ resolved graphs g firing configured → FiresGraph graphs ends g firing (Err refusal)
    refused_resolving refusal is = let P : Result (List ℤ) Refusal → Type 0 = λ r. Then AfterValues r (Err refusal) in (Ok configured, all, subst P is refl)

    module _ (values : List ℤ) (values_are : Ok values ≡ resolved graphs g firing configured) where
      onward : (end : End) → AfterValues values end → FiresGraph graphs ends g firing end
      onward end after = let P : Result (List ℤ) Refusal → Type 0 = λ r. Then AfterValues r end in (Ok configured, all, subst P values_are after)

      pub refused_rating : (refusal : Refusal) → rated graphs g firing values ≡ Err refusal → FiresGraph graphs ends g firing (Err refusal)
      refused_rating refusal is = let P : Result (List ℤ) Refusal → Type 0 = λ r. Then AfterRates r (Err refusal) in onward (Err refusal) (subst P (sym is) refl)

      module _ (rated_so : rated graphs g firing values ≡ Ok values) where
        further : (end : End) → AfterRates values end → FiresGraph graphs ends g firing end
        further end after = let P : Result (List ℤ) Refusal → Type 0 = λ r. Then AfterRates r end in onward end (subst P (sym rated_so) after)

        pub refused_scheduling : (refusal : Refusal) → Schedules g firing (level_in graphs g firing values) (Err refusal) → FiresGraph graphs ends g firing (Err refusal)
        refused_scheduling refusal is = further (Err refusal) (Err refusal, is, refl)

        pub fired_so : (schedule : LevelSchedule) (end : End) → IsScheduled (level_in graphs g firing values) schedule → RunsLevel graphs ends g firing configured values schedule.counts end → FiresGraph graphs ends g firing end
        fired_so schedule end is runs = further end (Ok schedule, is, runs)

  -- ---- the run of the level

  module _ (configured : List Configured) (values : List ℤ) (level : LevelView) (level_is : level ≡ level_in graphs g firing values) (s : LevelSchedule) (is : IsScheduled level s) where
    abbrev LevelRunAt : Traces → Result (Ended ℤ) Refusal → LevelView → Type 0
    LevelRunAt traces run l = IsLevelRun l s.counts (source_tokens g firing configured) (link_starts graphs g firing) (Fires graphs ends g firing values traces) run

    pub level_given : (lines : List (List ℤ)) (rows : List (List TraceRow)) (given : Given) →
        HasRun level (actor_fires graphs ends g firing values) (source_tokens g firing configured) (link_starts graphs g firing) (actors_of s.order) lines rows →
        ((traces : Traces) → HaveRows s.counts traces rows → given ≡ given_by graphs g firing configured values s.counts traces (end_of level s.counts lines)) →
        RunsLevel graphs ends g firing configured values s.counts (Ok given)
    level_given lines rows given run gives =
        let traces : Traces = run.traces in
        let have : HaveRows s.counts traces rows = λ b. run.rows_are b ∙ ap (traces_below (traces b)) (is.order.order.admissible.counts b) in
        record {
          traces = traces;
          run = Ok (end_of level s.counts lines);
          level_run = subst (LevelRunAt traces (Ok (end_of level s.counts lines))) level_is record { list = actors_of s.order; order = is.order.order; ends = record { lines = Ok lines; runs = run.runs; is_end = refl } };
          gives = ap Ok (gives traces have);
        }

    pub level_refused : (refusal : Refusal) →
        MeetsRefusal level (actor_fires graphs ends g firing values) (source_tokens g firing configured) (link_starts graphs g firing) (actors_of s.order) refusal →
        RunsLevel graphs ends g firing configured values s.counts (Err refusal)
    level_refused refusal meets = record {
      traces = meets.traces;
      run = Err refusal;
      level_run = subst (LevelRunAt meets.traces (Err refusal)) level_is record { list = actors_of s.order; order = is.order.order; ends = record { lines = Err refusal; runs = meets.runs; is_end = refl } };
      gives = refl;
    }
