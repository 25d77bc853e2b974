use Rattle.job_calls.proofs.HeldSteps.{keeps_first, keeps_on}
use Rattle.job_calls.proofs.steps.pass_all.Goals as goal

pub loop-count-init : goal.loop-count-init
loop-count-init c = keeps_first c.args.job.now

pub loop-count-preserved : goal.loop-count-preserved
loop-count-preserved c = keeps_on c.args.job.now c.loop-count.job c.pass.new.job c.loop-count.invariant c.pass.ensures
