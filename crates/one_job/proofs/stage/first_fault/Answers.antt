use Rattle.std.proofs.Common.{sym, ◌∙◌}
use Rattle.one_job.proofs.FirstFault.{failure_step}
use Rattle.one_job.proofs.stage.first_fault.Goals as goal

pub loop-n-preserved : goal.loop-n-preserved
loop-n-preserved c = sym (failure_step c.args.stages.now c.loop-n.n c.index-stages-n.result c.loop-n-test.true c.index-stages-n.is c.in_default.not-Failed) ∙ c.loop-n.invariant
