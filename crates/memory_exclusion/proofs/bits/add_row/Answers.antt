use Rattle.std.proofs.Common.{◌≡◌, arith}
use Rattle.memory_exclusion.proofs.Words.{row_more, row_added}
use Rattle.memory_exclusion.proofs.bits.add_row.Goals as goal

pub loop-k-preserved : goal.loop-k-preserved
loop-k-preserved c =
    row_more c.args.words.now c.loop-k.words c.args.width c.args.row c.args.other c.loop-k.k c.loop-k-test.true c.requires.row c.loop-k.invariant

pub returns : goal.returns
returns c =
    let all : c.loop-k.k ≡ c.args.width = omega arith in
    row_added c.args.words.now c.loop-k.words c.args.width c.args.row c.args.other (rw all at c.loop-k.invariant)
