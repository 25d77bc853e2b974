-- Unfolded graphs in the place of iterations.
use Rattle.std.specs.Arc.{arc_value}
use Rattle.pisdf_model.specs.declared.graph.Graphs.{Graphs}
use Rattle.unfold_rates.specs.Cut.{IsUnfolded}
use Rattle.unfold_rates.specs.Fits.{FitAsBefore}
use Rattle.unfold_rates.specs.InTurn.{UnfoldsTo}
use Rattle.unfold_rates.specs.declared.unfolded.Unfolded.{Unfolded}

-- one iteration of the unfolded graphs can be made in the place of iterations of these, and stands for them
pub record StandsFor (graphs : Graphs) (u : Unfolded) : Type 0 where
  pub unfolded : IsUnfolded graphs u.times u
  pub fits : FitAsBefore graphs u.times (arc_value u.graphs)
  pub stands : UnfoldsTo graphs u
