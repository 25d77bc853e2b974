use Rattle.std.proofs.Common.{arith}
use Rattle.special_actors.proofs.Spread.{repeated_more}
use Rattle.special_actors.proofs.repeating.repeat.Goals as goal

pub loop-to-preserved : goal.loop-to-preserved
loop-to-preserved c =
    repeated_more c.args.frame.now c.loop-to.frame c.write_round-place.new.frame c.loop-to.to c.loop-to.place c.write_round-place.result c.loop-to.invariant (omega arith) c.requires.some c.write_round-place.ensures.place c.write_round-place.ensures.written
