use Rattle.std.proofs.Common.{arith}
use Rattle.schedule_bound.proofs.Greatest.{greatest_more}
use Rattle.schedule_bound.proofs.critical.greatest_of.Goals as goal

pub loop-p-preserved : goal.loop-p-preserved
loop-p-preserved c =
    let more = greatest_more c.args.priority.now c.loop-p.p-index 0 c.loop-p-test.true in
    omega arith
