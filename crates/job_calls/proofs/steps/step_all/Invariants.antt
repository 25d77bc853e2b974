use Rattle.job_calls.specs.Held.{Holds}
use Rattle.job_calls.proofs.steps.step_all.Given as goal

abbrev pub invariant-loop-step : goal.invariant-loop-step
invariant-loop-step l = Holds l.job l.frames
