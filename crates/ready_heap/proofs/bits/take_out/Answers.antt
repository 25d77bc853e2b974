use Rattle.std.proofs.Common.{◌/◌, arith}
use Rattle.ready_heap.proofs.Writing.{kept_summary}
use Rattle.ready_heap.proofs.bits.take_out.Goals as goal

pub returns-else-words-k-eq0-clause-summary : goal.returns-else-words-k-eq0-clause-summary
returns-else-words-k-eq0-clause-summary c = kept_summary c.args.words.now c.args.summary.now c.clear_bit.new.words c.args.summary.now c.args.k c.requires.summary c.clear_bit.ensures (omega arith) (omega (arith, c.type_inv.words (c.args.k / 64)))
