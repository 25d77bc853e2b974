-- What a firing of a graph that is done went through.
use Rattle.std.proofs.Common.{◌≡◌, ℕ, ◌<◌, ℤ, List, [], ◌∷◌, ◌++◌, slice_index, Result, Ok, Err, refl, ap, sym, ◌∙◌, subst, arith}
use Rattle.level_schedule.specs.Schedules.{IsScheduled}
use Rattle.level_schedule.specs.declared.scheduling.LevelSchedule.{LevelSchedule}
use Rattle.param_resolver.specs.LevelOf.{level_faults}
use Rattle.pisdf_model.specs.declared.graph.Graph.{Graph}
use Rattle.pisdf_meaning.specs.Configuring.{Configures}
use Rattle.pisdf_meaning.specs.Endings.{End, Ends, Then}
use Rattle.pisdf_meaning.specs.Meaning.{FiresGraph}
use Rattle.pisdf_meaning.specs.Preparing.{Schedules, level_in, rated, resolved}
use Rattle.pisdf_meaning.specs.Running.{Fires, RunsLevel, Traces, given_by, link_starts, source_tokens}
use Rattle.pisdf_meaning.specs.declared.firing.Configured.{Configured}
use Rattle.pisdf_meaning.specs.declared.firing.Firing.{Firing}
use Rattle.pisdf_meaning.specs.declared.firing.Given.{Given}
use Rattle.pisdf_meaning.specs.declared.refusal.Refusal.{Refusal}
use Rattle.pisdf_meaning.proofs.KeptSizes.{gone}
use Rattle.pisdf_meaning.proofs.SomeMeaning.{unrefused}
use Rattle.sdf_level.specs.Firings.{EachFiring, firings}
use Rattle.sdf_level.specs.LevelRun.{Ended, IsEnd, IsLevelRun, end_of}
use Rattle.sdf_level.specs.Run.{Fire, GoesOn, Runs, RunsFrom, inputs, put}
use Rattle.sdf_level.specs.View.{LevelView}
use Rattle.sdf_level.proofs.FiringLists.{firing_at}

-- its configuration actors left these, its parameters have these values, and its level was run by this schedule
pub record Fired (graphs : List Graph) (ends : Ends) (g : Graph) (firing : Firing) (given : Given) : Type 0 where
  pub configured : List Configured
  pub configures : Configures graphs ends g firing (Ok configured)
  pub values : List ℤ
  pub resolved_so : resolved graphs g firing configured ≡ Ok values
  pub no_faults : level_faults graphs g values ≡ []
  pub schedule : LevelSchedule
  pub scheduled : IsScheduled (level_in graphs g firing values) schedule
  pub run : RunsLevel graphs ends g firing configured values schedule.counts (Ok given)

pub fired : (graphs : List Graph) (ends : Ends) (g : Graph) (firing : Firing) (given : Given) → FiresGraph graphs ends g firing (Ok given) → Fired graphs ends g firing given
fired graphs ends g firing given f =
    let AfterRates : List Configured → List ℤ → End → Type 0 = λ configured values end.
    (schedule : Result LevelSchedule Refusal) × Schedules g firing (level_in graphs g firing values) schedule × Then (λ s end. RunsLevel graphs ends g firing configured values s.counts end) schedule end in
    let AfterValues : List Configured → List ℤ → End → Type 0 = λ configured values end. Then (AfterRates configured) (rated graphs g firing values) end in
    let actors = gone (λ configured (end : End). Then (AfterValues configured) (resolved graphs g firing configured) end) f.0 given f.2 in
    let values = gone (AfterValues actors.one) (resolved graphs g firing actors.one) given actors.goes in
    let rates = gone (AfterRates actors.one) (rated graphs g firing values.one) given values.goes in
    let free = unrefused graphs g firing.path (level_faults graphs g values.one) values.one rates.one rates.is in
    let schedule = gone (λ s (end : End). RunsLevel graphs ends g firing actors.one rates.one s.counts end) rates.goes.0 given rates.goes.2 in
    let C : Result (List Configured) Refusal → Type 0 = λ r. Configures graphs ends g firing r in
    let S : Result LevelSchedule Refusal → Type 0 = λ r. Schedules g firing (level_in graphs g firing rates.one) r in
    let F : List ℤ → Type 0 = λ v. level_faults graphs g v ≡ [] in
    record {
      configured = actors.one;
      configures = subst C actors.is f.1;
      values = rates.one;
      resolved_so = values.is ∙ ap Ok free.1;
      no_faults = subst F free.1 free.0;
      schedule = schedule.one;
      scheduled = subst S schedule.is rates.goes.1;
      run = schedule.goes;
    }

-- and the other way round
pub fires_so : (graphs : List Graph) (ends : Ends) (g : Graph) (firing : Firing) (given : Given) → Fired graphs ends g firing given → FiresGraph graphs ends g firing (Ok given)
fires_so graphs ends g firing given f =
    let AfterRates : List Configured → List ℤ → End → Type 0 = λ configured values end.
    (schedule : Result LevelSchedule Refusal) × Schedules g firing (level_in graphs g firing values) schedule × Then (λ s end. RunsLevel graphs ends g firing configured values s.counts end) schedule end in
    let AfterValues : List Configured → List ℤ → End → Type 0 = λ configured values end. Then (AfterRates configured) (rated graphs g firing values) end in
    let scheduled : AfterRates f.configured f.values (Ok given) = (Ok f.schedule, f.scheduled, f.run) in
    let P : Result (List ℤ) Refusal → Type 0 = λ r. Then (AfterRates f.configured) r (Ok given) in
    let rated_so : rated graphs g firing f.values ≡ Ok f.values = rw f.no_faults refl in
    let after : AfterValues f.configured f.values (Ok given) = subst P (sym rated_so) scheduled in
    let Q : Result (List ℤ) Refusal → Type 0 = λ r. Then (AfterValues f.configured) r (Ok given) in
    (Ok f.configured, f.configures, subst Q (sym f.resolved_so) after)

-- ---- the run of its level

pub record Ran (graphs : List Graph) (ends : Ends) (g : Graph) (firing : Firing) (configured : List Configured) (values : List ℤ) (counts : List ℕ) (given : Given) : Type 0 where
  pub traces : Traces
  pub ended : Ended ℤ
  pub level_run : IsLevelRun (level_in graphs g firing values) counts (source_tokens g firing configured) (link_starts graphs g firing) (Fires graphs ends g firing values traces) (Ok ended)
  pub gives : given ≡ given_by graphs g firing configured values counts traces ended

pub ran : (graphs : List Graph) (ends : Ends) (g : Graph) (firing : Firing) (configured : List Configured) (values : List ℤ) (counts : List ℕ) (given : Given) → RunsLevel graphs ends g firing configured values counts (Ok given) → Ran graphs ends g firing configured values counts given
ran graphs ends g firing configured values counts given run =
    let ended = gone (λ (e : Ended ℤ) (end : End). end ≡ Ok (given_by graphs g firing configured values counts run.traces e)) run.run given run.gives in
    let P : Result (Ended ℤ) Refusal → Type 0 = λ r. IsLevelRun (level_in graphs g firing values) counts (source_tokens g firing configured) (link_starts graphs g firing) (Fires graphs ends g firing values run.traces) r in
    record {
      traces = run.traces;
      ended = ended.one;
      level_run = subst P ended.is run.level_run;
      gives = let e = ended.goes in cc;
    }

-- ---- each firing of a run without a fault is done

abbrev Done : Fire ℤ Refusal → List ℕ → ℕ → Type 0
Done fire before b = (read outs : List (List ℤ)) × fire b (firings b before) read (Ok outs)

done_on : (fire : Fire ℤ Refusal) (before : List ℕ) (b : ℕ) (read : List (List ℤ)) (rest : List ℕ) (next : List (List ℤ) → Type 0) (lines : List (List ℤ)) →
    ((outs : List (List ℤ)) → next outs → EachFiring (Done fire) (before ++ b ∷ []) rest) → (answer : Result (List (List ℤ)) Refusal) → fire b (firings b before) read answer → GoesOn next (Ok lines) answer → EachFiring (Done fire) before (b ∷ rest)
done_on fire before b read rest next lines again (Ok outs) f goes = ((read, outs, f), again outs goes)
done_on fire before b read rest next lines again (Err fault) f goes = absurd (cc)

each_done : (level : LevelView) (fire : Fire ℤ Refusal) (sources : List (List ℤ)) (before : List ℕ) (lines : List (List ℤ)) (rest : List ℕ) (left : List (List ℤ)) → RunsFrom level fire sources before lines rest (Ok left) → EachFiring (Done fire) before rest
each_done level fire sources before lines [] left runs = tt
each_done level fire sources before lines (b ∷ rest) left runs =
    done_on fire before b (inputs sources b (firings b before) level.links lines) rest (λ outs. RunsFrom level fire sources (before ++ b ∷ []) (put b outs level.links lines) rest (Ok left)) left
    (λ outs more. each_done level fire sources (before ++ b ∷ []) (put b outs level.links lines) rest left more) runs.0 runs.1 runs.2

lines_done : (level : LevelView) (counts : List ℕ) (lines : Result (List (List ℤ)) Refusal) (ended : Ended ℤ) → IsEnd level counts lines (Ok ended) → (left : List (List ℤ)) × (lines ≡ Ok left) × (ended ≡ end_of level counts left)
lines_done level counts (Ok left) ended is = (left, refl, cc)
lines_done level counts (Err fault) ended is = absurd (cc)

pub firing_done : (level : LevelView) (counts : List ℕ) (fire : Fire ℤ Refusal) (sources starts : List (List ℤ)) (ended : Ended ℤ) → IsLevelRun level counts sources starts fire (Ok ended) → (b k : ℕ) → k < slice_index counts b →
    (read outs : List (List ℤ)) × fire b k read (Ok outs)
firing_done level counts fire sources starts ended run b k inside =
    let lines = lines_done level counts run.ends.lines ended run.ends.is_end in
    let R : Result (List (List ℤ)) Refusal → Type 0 = λ r. Runs level fire sources starts run.list r in
    let each = each_done level fire sources [] starts run.list lines.0 (subst R lines.1 run.ends.runs) in
    let count = run.order.admissible.counts b in
    let found = firing_at (Done fire) [] run.list b k each (omega arith) (omega arith) in
    let P : ℕ → Type 0 = λ j. (read outs : List (List ℤ)) × fire b j read (Ok outs) in
    subst P found.1 found.2
