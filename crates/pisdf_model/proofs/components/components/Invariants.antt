use Rattle.std.proofs.Common.{length}
use Rattle.pisdf_model.specs.Components.{IsSearchAmong}
use Rattle.pisdf_model.proofs.components.components.Given as goal

abbrev pub invariant-loop-step : goal.invariant-loop-step
invariant-loop-step l = IsSearchAmong (length l.arrows) l.search
