use Rattle.std.proofs.Common.{◌≡◌}
use Rattle.job_preparing.specs.Stages.{refusal_in}
use Rattle.job_preparing.proofs.stage.first_refused.Given as goal

abbrev pub invariant-loop-stage : goal.invariant-loop-stage
invariant-loop-stage l = l.found ≡ refusal_in l.yielded
