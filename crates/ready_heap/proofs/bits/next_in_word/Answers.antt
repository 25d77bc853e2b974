use Rattle.std.proofs.Common.{arith}
use Rattle.ready_heap.proofs.Searching.{none_in_word, next_of_word}
use Rattle.ready_heap.proofs.bits.next_in_word.Goals as goal

pub returns-then-left-eq0 : goal.returns-then-left-eq0
returns-then-left-eq0 c = none_in_word c.args.word c.args.from (omega arith) c.requires c.if-left-eq0.true

pub returns : goal.returns
returns c = next_of_word c.args.word c.args.from (omega arith) c.requires c.if-left-eq0.false
