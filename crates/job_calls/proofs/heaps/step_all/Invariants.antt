use Rattle.std.proofs.Common.{◌≡◌}
use Rattle.job_calls.proofs.heaps.step_all.Given as goal

abbrev pub invariant-loop-step : goal.invariant-loop-step
invariant-loop-step l = l.heaps.held ≡ l.held
