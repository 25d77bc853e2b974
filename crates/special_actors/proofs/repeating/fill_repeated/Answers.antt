use Rattle.std.proofs.Common.{length, arith}
use Rattle.special_actors.proofs.Rounds.{filled_again}
use Rattle.special_actors.proofs.repeating.fill_repeated.Goals as goal

pub loop-filled-preserved : goal.loop-filled-preserved
loop-filled-preserved c =
    filled_again c.args.tokens.now c.loop-filled.output c.write_again-filled.new.output c.args.place (length c.args.output.now) c.loop-filled.filled c.write_again-filled.result
    (omega arith) c.loop-filled.invariant (omega arith) c.write_again-filled.auto.output c.write_again-filled.ensures.count c.write_again-filled.ensures.written
