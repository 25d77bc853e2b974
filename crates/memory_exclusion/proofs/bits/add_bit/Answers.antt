use Rattle.memory_exclusion.proofs.Words.{bit_added, with_bit, place}
use Rattle.memory_exclusion.proofs.bits.add_bit.Goals as goal

pub returns : goal.returns
unfolding with_bit place
returns c = bit_added c.args.words.now c.args.width c.args.row c.args.bit c.requires.row c.requires.bit
