-- The unfolded graphs keep what is asked of graphs.
use Rattle.std.proofs.Common.{◌≡◌, ℕ, ◌<◌, ◌≤◌, ℤ, List, [], length, slice_get, Option, Some, ap, ◌∙◌}
use Rattle.param_resolver.specs.EarlyCheck.{check_by, check_of}
use Rattle.pisdf_model.specs.Range.{InRange}
use Rattle.pisdf_model.specs.Valid.{AreValid}
use Rattle.pisdf_model.specs.WellFormed.{WellFormed}
use Rattle.pisdf_model.specs.declared.graph.Graph.{Graph}
use Rattle.pisdf_model.specs.declared.graph.Graphs.{Graphs}
use Rattle.unfold_rates.specs.Exact.{IsExact}
use Rattle.unfold_rates.specs.Fits.{FitAsBefore}
use Rattle.unfold_rates.specs.Multiplied.{multiplied_graph, unfolded_graphs}
use Rattle.unfold_rates.proofs.Lookups.{multiplied_there}
use Rattle.unfold_rates.proofs.MultipliedRates.{needs_multiply, sound_stays}
use Rattle.unfold_rates.proofs.SameFaults.{initial_same}
use Rattle.unfold_rates.proofs.SameRange.{kernels_stay, valid_stays}

-- the early check takes those of the graphs that configuration actors name
abbrev pub EarlyUnfolds : Type 0
EarlyUnfolds = (graphs : Graphs) (place : ℕ) (inherited : List ℤ) → InRange graphs → WellFormed graphs → place < length graphs.graphs → check_of graphs.graphs place inherited ≡ check_by (check_of graphs.graphs) graphs.graphs (slice_get graphs.graphs place) inherited

module _ (unfolds : EarlyUnfolds) (graphs : Graphs) (times : ℕ) (few : times ≤ 64) (valid : AreValid graphs) (exact : IsExact graphs times) where
  abbrev others : Graphs
  others = unfolded_graphs graphs times

  pub valid' : AreValid others
  valid' = valid_stays times graphs valid

  pub top_is' : slice_get others.graphs graphs.top ≡ Some (multiplied_graph times exact.top)
  top_is' = multiplied_there times graphs.top exact.top graphs.graphs exact.top_is

  pub opened : check_of graphs.graphs graphs.top [] ≡ check_by (check_of graphs.graphs) graphs.graphs (Some exact.top) []
  opened = unfolds graphs graphs.top [] valid.in_range valid.well_formed valid.in_range.top ∙ ap (λ (o : Option Graph). check_by (check_of graphs.graphs) graphs.graphs o []) exact.top_is

  pub opened' : check_of others.graphs graphs.top [] ≡ check_by (check_of others.graphs) others.graphs (Some (multiplied_graph times exact.top)) []
  opened' = unfolds others graphs.top [] valid'.in_range valid'.well_formed valid'.in_range.top ∙ ap (λ (o : Option Graph). check_by (check_of others.graphs) others.graphs o []) top_is'

  pub fit_as_before : FitAsBefore graphs times others
  fit_as_before = record {
    valid = valid';
    sound = sound_stays times few graphs.graphs others.graphs graphs.top exact.top opened opened' exact.configures_nothing exact.early exact.inputs exact.outputs;
    kernels = kernels_stay times graphs;
    needs = needs_multiply times few graphs.graphs others.graphs graphs.top exact.top opened opened' exact.configures_nothing exact.early exact.inputs exact.outputs;
    begins = initial_same times graphs graphs.top;
  }
