use Rattle.ready_heap.proofs.Writing.{clear_puts}
use Rattle.ready_heap.proofs.bits.clear_bit.Goals as goal

pub returns : goal.returns
returns c = clear_puts c.args.words.now c.args.k c.requires
