use Rattle.std.proofs.Common.{arith, ap, get_or, length}
use Rattle.pisdf_program.proofs.Numbers.{none_over}
use Rattle.pisdf_program.proofs.number.number_within.Goals as goal

pub returns-then-number-high-clause-number : goal.returns-then-number-high-clause-number
returns-then-number-high-clause-number c =
    let same = c.as_bytes-byte-items.ensures.value in
    none_over c.args.digits c.args.low c.args.high c.loop-byte.number c.loop-byte.byte-index
    (get_or c.as_bytes-byte-items.result.now c.loop-byte.byte-index 0) c.args.text.now
    (omega (arith, ap (length) same)) (ap (λ t. get_or t c.loop-byte.byte-index 0) same) c.loop-byte.invariant.value (omega arith)
