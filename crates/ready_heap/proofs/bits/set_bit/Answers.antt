use Rattle.ready_heap.proofs.Writing.{set_puts}
use Rattle.ready_heap.proofs.bits.set_bit.Goals as goal

pub returns : goal.returns
returns c = set_puts c.args.words.now c.args.k c.requires
