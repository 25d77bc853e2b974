use Rattle.std.proofs.Common.{arith}
use Rattle.special_actors.proofs.Spread.{cut_fits, cut_more}
use Rattle.special_actors.proofs.spreading.cut.Goals as goal

pub write_piece-place-requires-clause-within : goal.write_piece-place-requires-clause-within
write_piece-place-requires-clause-within c =
    cut_fits c.args.frame.now c.loop-to.frame c.loop-to.to c.loop-to.place c.loop-to.invariant (omega arith) c.requires.fits

pub loop-to-preserved : goal.loop-to-preserved
loop-to-preserved c =
    cut_more c.args.frame.now c.loop-to.frame c.write_piece-place.new.frame c.loop-to.to c.loop-to.place c.write_piece-place.result c.loop-to.invariant (omega arith) c.requires.fits c.write_piece-place.ensures.place c.write_piece-place.ensures.written
