-- The values of the parameters of a top graph, which are known early.
use Rattle.std.proofs.Common.{◌≡◌, ℤ, List, [], length, slice_get, Option, Some, ap, ◌∙◌}
use Rattle.param_resolver.specs.Assignment.{numbers}
use Rattle.param_resolver.specs.EarlyCheck.{Checked, check_by, check_of, early_of, supplied_early}
use Rattle.param_resolver.specs.Resolvable.{AreResolvable}
use Rattle.param_resolver.proofs.RatedFaults.{length-numbers}
use Rattle.pisdf_model.specs.Range.{InRange}
use Rattle.pisdf_model.specs.Valid.{AreValid}
use Rattle.pisdf_model.specs.WellFormed.{WellFormed}
use Rattle.pisdf_model.specs.declared.graph.Graph.{Graph}
use Rattle.pisdf_model.specs.declared.graph.Graphs.{Graphs}
use Rattle.pisdf_meaning.proofs.ParamValues.{resolvable_at}
use Rattle.unfold_rates.specs.Exact.{own_values}
use Rattle.unfold_rates.proofs.Fitted.{EarlyUnfolds}

abbrev pub Resolve : Type 0
Resolve = (graphs : Graphs) → InRange graphs → WellFormed graphs → AreResolvable graphs.graphs

module _ (unfolds : EarlyUnfolds) (resolve : Resolve) (graphs : Graphs) (valid : AreValid graphs) (g : Graph) (here : slice_get graphs.graphs graphs.top ≡ Some g) where
  pub values_known : numbers (early_of graphs.graphs graphs.top []).values ≡ own_values g
  values_known =
      ap (λ (c : Checked). numbers c.early.values)
      (unfolds graphs graphs.top [] valid.in_range valid.well_formed valid.in_range.top ∙ ap (λ (o : Option Graph). check_by (check_of graphs.graphs) graphs.graphs o []) here)

  pub values_long : length (numbers (early_of graphs.graphs graphs.top []).values) ≡ length g.params
  values_long =
      ap (λ (l : List ℤ). length l) values_known ∙ length-numbers g.params (supplied_early g.params []) (resolvable_at graphs.graphs graphs.top g here (resolve graphs valid.in_range valid.well_formed)).ordered
