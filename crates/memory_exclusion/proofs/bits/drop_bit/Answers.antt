use Rattle.memory_exclusion.proofs.Words.{bit_dropped, without_bit, place}
use Rattle.memory_exclusion.proofs.bits.drop_bit.Goals as goal

pub returns : goal.returns
unfolding without_bit place
returns c = bit_dropped c.args.words.now c.args.width c.args.row c.args.bit c.requires.row c.requires.bit
