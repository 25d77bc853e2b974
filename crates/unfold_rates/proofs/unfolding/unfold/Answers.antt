use Rattle.std.proofs.Common.{ap, sym, ◌∙◌, refl, subst}
use Rattle.level_schedule.specs.declared.scheduling.LevelSchedule.{LevelSchedule}
use Rattle.pisdf_model.specs.declared.graph.Graphs.{Graphs}
use Rattle.unfold_rates.specs.Fits.{FitAsBefore}
use Rattle.unfold_rates.proofs.Fitted.{fit_as_before}
use Rattle.unfold_rates.proofs.InTurn.{unfolds_to}
use Rattle.unfold_rates.proofs.unfolding.unfold.Goals as goal

pub returns-clause-unfolded : goal.returns-clause-unfolded
returns-clause-unfolded c = record {
  some = c.requires.some;
  few = c.requires.few;
  exact = c.in_ok-schedule.ensures.exact.0;
  graphs_are = c.in_ok-shared.ensures.ok ∙ c.in_ok-unfolded.ensures;
  counts_are = ap (λ (s : LevelSchedule). s.counts) (sym c.in_ok-schedule.ensures.exact.1);
  times_are = refl;
}

pub returns-clause-fits : goal.returns-clause-fits
returns-clause-fits c =
    let P : Graphs → Type 0 = λ x. FitAsBefore c.args.graphs.now c.args.times x in
    subst P (sym (c.in_ok-shared.ensures.ok ∙ c.in_ok-unfolded.ensures)) (fit_as_before c.early_unfolds.ensures c.args.graphs.now c.args.times c.requires.few c.requires.valid c.in_ok-schedule.ensures.exact.0)

pub returns-clause-unfolds : goal.returns-clause-unfolds
returns-clause-unfolds c =
    unfolds_to c.early_unfolds.ensures c.counts_multiplied.ensures c.graphs_below.ensures c.levels_alike.ensures.level c.actors_move.ensures c.level_runs_move.ensures c.runnable.ensures c.unfolded_scheduled.ensures c.args.graphs.now
    record { graphs = c.in_ok-shared.shared; counts = c.in_ok-schedule.schedule.counts; times = c.args.times } c.requires.valid
    record {
      some = c.requires.some;
      few = c.requires.few;
      exact = c.in_ok-schedule.ensures.exact.0;
      graphs_are = c.in_ok-shared.ensures.ok ∙ c.in_ok-unfolded.ensures;
      counts_are = ap (λ (s : LevelSchedule). s.counts) (sym c.in_ok-schedule.ensures.exact.1);
      times_are = refl;
    }
