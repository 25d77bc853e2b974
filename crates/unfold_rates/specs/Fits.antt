-- What the unfolded graphs keep of what is asked of graphs.
use Rattle.std.specs.Prelude.{◌≡◌, ℕ, ◌*◌, List, [], map}
use Rattle.kernel_gate.specs.Signed.{Counts}
use Rattle.param_resolver.specs.EarlyCheck.{early_faults}
use Rattle.pisdf_meaning.specs.Run.{top_needs}
use Rattle.pisdf_meaning.specs.Sound.{KernelsFit}
use Rattle.pisdf_model.specs.Hold.{initial}
use Rattle.pisdf_model.specs.Valid.{AreValid}
use Rattle.pisdf_model.specs.declared.graph.Graphs.{Graphs}

-- The others are valid, their early check finds nothing, and what kernels they have fit where those of the graphs do. An
-- iteration takes so many times the tokens, and the first one begins with the same state.
pub record FitAsBefore (graphs : Graphs) (times : ℕ) (others : Graphs) : Type 0 where
  pub valid : AreValid others
  pub sound : early_faults others.graphs others.top [] ≡ []
  pub kernels : (signatures : List Counts) → KernelsFit signatures graphs.graphs → KernelsFit signatures others.graphs
  pub needs : top_needs others ≡ map (λ r. times * r) (top_needs graphs)
  pub begins : initial others.graphs others.top ≡ initial graphs.graphs graphs.top
