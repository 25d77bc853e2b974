use Rattle.job_calls.specs.Held.{KeepsHeld}
use Rattle.job_calls.proofs.steps.pass_all.Given as goal

abbrev pub invariant-loop-count : goal.invariant-loop-count
invariant-loop-count l = KeepsHeld l.fn.job l.job
