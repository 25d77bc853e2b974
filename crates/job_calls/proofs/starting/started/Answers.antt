use Rattle.job_calls.proofs.HeldSteps.{none_claimed_first}
use Rattle.job_calls.proofs.starting.started.Goals as goal

pub returns : goal.returns
returns c = none_claimed_first c.in_ok-job.job.marks _ c.in_ok-job.ensures.free
