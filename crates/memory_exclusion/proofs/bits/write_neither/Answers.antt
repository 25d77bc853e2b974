use Rattle.std.proofs.Common.{◌≡◌, arith}
use Rattle.memory_exclusion.proofs.Neither.{one_more_word, all_written}
use Rattle.memory_exclusion.proofs.bits.write_neither.Goals as goal

pub loop-k-preserved : goal.loop-k-preserved
loop-k-preserved c = one_more_word c.args.one.now c.args.other.now _ _ c.loop-k.row c.loop-k.k (omega arith) c.loop-k.invariant

pub returns : goal.returns
returns c =
    let all : c.loop-k.k ≡ c.args.width = omega arith in
    all_written c.args.width c.args.one_row c.args.other_row c.args.one.now c.args.other.now c.loop-k.row (λ n. let fits = c.type_inv.one n in omega arith) (λ n. let fits = c.type_inv.other n in omega arith) (rw all at c.loop-k.invariant)
