use Rattle.std.proofs.Common.{◌-◌, arith}
use Rattle.special_actors.proofs.Gathered.{kept_more}
use Rattle.special_actors.proofs.gathering.keep_last.Goals as goal

pub loop-left-preserved : goal.loop-left-preserved
loop-left-preserved c =
    kept_more c.args.frame.now c.loop-left.frame c.write_before-end.new.frame c.loop-left.left (c.loop-left.left - 1) c.loop-left.end c.write_before-end.result c.loop-left.invariant (omega arith) c.write_before-end.ensures.start c.write_before-end.ensures.written
