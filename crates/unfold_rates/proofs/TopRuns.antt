-- An iteration of graphs whose top graph has no configuration actor is the run of its level.
use Rattle.std.proofs.Common.{◌≡◌, ℤ, List, [], ◌++◌, map, slice_get, Option, Some, Ok, refl, ap, sym, ◌∙◌, subst}
use Rattle.level_schedule.specs.Schedules.{IsScheduled}
use Rattle.level_schedule.specs.declared.scheduling.LevelSchedule.{LevelSchedule}
use Rattle.param_resolver.specs.Assignment.{supplied_to, numbers, param_faults, values_of}
use Rattle.param_resolver.specs.EarlyCheck.{Checked, as_refusal, check_by, check_of, early_faults, supplied_early}
use Rattle.param_resolver.specs.LevelOf.{level_faults}
use Rattle.pisdf_model.specs.Valid.{AreValid}
use Rattle.pisdf_model.specs.declared.graph.Graph.{Graph}
use Rattle.pisdf_model.specs.declared.graph.Graphs.{Graphs}
use Rattle.pisdf_model.proofs.Lists.{left_none}
use Rattle.pisdf_meaning.specs.Causes.{unless_refused}
use Rattle.pisdf_meaning.specs.Configuring.{Configuration, LeaveAll, configurations}
use Rattle.pisdf_meaning.specs.Endings.{Ends}
use Rattle.pisdf_meaning.specs.Meaning.{FiresGraph, MeansWithin}
use Rattle.pisdf_meaning.specs.Preparing.{chosen_values, level_in, resolved, values_set}
use Rattle.pisdf_meaning.specs.Run.{IterationGives, iteration_of, top_firing}
use Rattle.pisdf_meaning.specs.Running.{Fires, RunsLevel, Traces, child_rows, chosen_rows, given_by, link_starts, source_tokens, state_after}
use Rattle.pisdf_meaning.specs.declared.firing.Configured.{Configured}
use Rattle.pisdf_meaning.specs.declared.firing.Firing.{Firing}
use Rattle.pisdf_meaning.specs.declared.firing.Given.{Given}
use Rattle.pisdf_meaning.specs.declared.outcome.Iteration.{Iteration}
use Rattle.pisdf_meaning.specs.declared.outcome.TraceRow.{TraceRow}
use Rattle.sdf_level.specs.LevelRun.{Ended, IsLevelRun}
use Rattle.unfold_rates.specs.Exact.{own_values, top_level}
use Rattle.unfold_rates.proofs.Fired.{Fired, fired, fires_so, ran}
use Rattle.unfold_rates.proofs.Fitted.{EarlyUnfolds}
use Rattle.unfold_rates.proofs.Unset.{NoneConfigures, no_chosen_rows, no_chosen_values, no_configurations, none_chosen}

-- what the run of the top graph's level comes to, so that an iteration gives it
pub record TopRan (graphs : Graphs) (g : Graph) (ins state : List (List ℤ)) (iteration : Iteration) (left : List (List ℤ)) : Type 0 where
  pub schedule : LevelSchedule
  pub scheduled : IsScheduled (top_level graphs g) schedule
  pub traces : Traces
  pub ended : Ended ℤ
  pub level_run : IsLevelRun (top_level graphs g) schedule.counts (source_tokens g (top_firing g graphs.top ins state) []) (link_starts graphs.graphs g (top_firing g graphs.top ins state)) (Fires graphs.graphs (MeansWithin 7 graphs.graphs) g (top_firing g graphs.top ins state) (own_values g) traces) (Ok ended)
  pub outs_are : iteration.outs ≡ ended.outs
  pub trace_is : iteration.trace ≡ child_rows schedule.counts traces 0 g.actors []
  pub left_is : left ≡ state_after graphs.graphs g [] ended.left

module _ (unfolds : EarlyUnfolds) (graphs : Graphs) (valid : AreValid graphs) (g : Graph) (here : slice_get graphs.graphs graphs.top ≡ Some g) (nothing : NoneConfigures g.actors) (sound : early_faults graphs.graphs graphs.top [] ≡ []) where
  abbrev ends : Ends
  ends = MeansWithin 7 graphs.graphs

  opened : check_of graphs.graphs graphs.top [] ≡ check_by (check_of graphs.graphs) graphs.graphs (Some g) []
  opened = unfolds graphs graphs.top [] valid.in_range valid.well_formed valid.in_range.top ∙ ap (λ (o : Option Graph). check_by (check_of graphs.graphs) graphs.graphs o []) here

  params_none : map as_refusal (param_faults g.params (supplied_early g.params [])) ≡ []
  params_none = left_none _ _ (left_none _ _ (sym (ap (λ (c : Checked). c.faults) opened) ∙ sound))

  module _ (ins state : List (List ℤ)) where
    abbrev firing : Firing
    firing = top_firing g graphs.top ins state

    chosen_none : (configured : List Configured) → chosen_values g configured ≡ []
    chosen_none configured = no_chosen_values (values_set (configurations g) configured) 0 g.params (none_chosen graphs g valid.well_formed here nothing)

    resolves : (configured : List Configured) → resolved graphs.graphs g firing configured ≡ Ok (own_values g)
    resolves configured =
        let P : List ℤ → Type 0 = λ chosen. unless_refused graphs.graphs g firing.path (map as_refusal (param_faults g.params (supplied_to g.params [] chosen))) (numbers (values_of g.params (supplied_to g.params [] chosen))) ≡ Ok (own_values g) in
        let none : P [] = rw params_none refl in
        subst P (sym (chosen_none configured)) none

    configured_none : (configured : List Configured) → LeaveAll graphs.graphs ends g firing (configurations g) (Ok configured) → configured ≡ []
    configured_none configured leaves =
        let P : List Configuration → Type 0 = λ cs. LeaveAll graphs.graphs ends g firing cs (Ok configured) in
        let none : Ok configured ≡ Ok [] = subst P (no_configurations 0 0 g.actors nothing) leaves in
        cc

    rows_none : chosen_rows firing.path (own_values g) 0 g.params ≡ []
    rows_none = no_chosen_rows firing.path (own_values g) 0 g.params (none_chosen graphs g valid.well_formed here nothing)

    pub ran_by : (given : Given) → FiresGraph graphs.graphs ends g firing (Ok given) → TopRan graphs g ins state (iteration_of given) given.state
    ran_by given f =
        let went = fired graphs.graphs ends g firing given f in
        let values : went.values ≡ own_values g = let e = sym went.resolved_so ∙ resolves went.configured in cc in
        let none = configured_none went.configured went.configures in
        let R : List Configured → List ℤ → Type 0 = λ configured values. (s : LevelSchedule) × IsScheduled (level_in graphs.graphs g firing values) s × RunsLevel graphs.graphs ends g firing configured values s.counts (Ok given) in
        let here : R [] (own_values g) = subst (λ (c : List Configured). R c (own_values g)) none (subst (λ (v : List ℤ). R went.configured v) values (went.schedule, went.scheduled, went.run)) in
        let run = ran graphs.graphs ends g firing [] (own_values g) here.0.counts given here.2 in
        record {
          schedule = here.0;
          scheduled = here.1;
          traces = run.traces;
          ended = run.ended;
          level_run = run.level_run;
          outs_are = ap (λ (x : Given). x.outs) run.gives;
          trace_is = ap (λ (x : Given). x.trace) run.gives ∙ ap (λ (rows : List TraceRow). rows ++ child_rows here.0.counts run.traces 0 g.actors []) rows_none;
          left_is = ap (λ (x : Given). x.state) run.gives;
        }

    pub top_ran : (iteration : Iteration) (left : List (List ℤ)) → IterationGives graphs ins state iteration left → TopRan graphs g ins state iteration left
    top_ran iteration left gives =
        let top : gives.ends.top ≡ g = let e = sym gives.ends.top_is ∙ here in cc in
        let P : Graph → Type 0 = λ x. MeansWithin 8 graphs.graphs (top_firing x graphs.top ins state) (Ok gives.given) in
        let means = subst P top gives.ends.means in
        let own : means.0 ≡ g = let e = sym means.1 ∙ here in cc in
        let Q : Graph → Type 0 = λ x. FiresGraph graphs.graphs ends x firing (Ok gives.given) in
        let ran = ran_by gives.given (subst Q own means.2) in
        let T : Iteration → Type 0 = λ i. TopRan graphs g ins state i left in
        let L : List (List ℤ) → Type 0 = λ l. TopRan graphs g ins state (iteration_of gives.given) l in
        subst T (sym gives.iteration_is) (subst L (sym gives.state_is) ran)

    pub gives_so : level_faults graphs.graphs g (own_values g) ≡ [] → (iteration : Iteration) (left : List (List ℤ)) → TopRan graphs g ins state iteration left → IterationGives graphs ins state iteration left
    gives_so rates iteration left ran =
        let given : Given = given_by graphs.graphs g firing [] (own_values g) ran.schedule.counts ran.traces ran.ended in
        let C : List Configuration → Type 0 = λ cs. LeaveAll graphs.graphs ends g firing cs (Ok []) in
        let went : Fired graphs.graphs ends g firing given = record {
          configured = [];
          configures = subst C (sym (no_configurations 0 0 g.actors nothing)) refl;
          values = own_values g;
          resolved_so = resolves [];
          no_faults = rates;
          schedule = ran.schedule;
          scheduled = ran.scheduled;
          run = record { traces = ran.traces; run = Ok ran.ended; level_run = ran.level_run; gives = refl };
        } in
        let trace : given.trace ≡ iteration.trace = ap (λ (rows : List TraceRow). rows ++ child_rows ran.schedule.counts ran.traces 0 g.actors []) rows_none ∙ sym ran.trace_is in
        record {
          given = given;
          ends = record { top = g; top_is = here; means = (g, here, fires_so graphs.graphs ends g firing given went) };
          iteration_is = ap (λ (outs : List (List ℤ)). record { outs = outs; trace = iteration.trace }) ran.outs_are ∙ ap (λ (rows : List TraceRow). record { outs = ran.ended.outs; trace = rows }) (sym trace);
          state_is = ran.left_is;
        }
