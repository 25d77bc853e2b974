use Rattle.std.proofs.Common.{All}
use Rattle.pisdf_model.specs.Components.{IsStepAmong}
use Rattle.pisdf_model.proofs.components.steps_into.Given as goal

abbrev pub invariant-loop-place : goal.invariant-loop-place
invariant-loop-place l = All (IsStepAmong l.count) l.steps.items
