use Rattle.std.proofs.Common.{arith}
use Rattle.token_text.proofs.Digits.{read-large}
use Rattle.token_text.proofs.token.magnitude.Goals as goal

pub returns-then-value-gt-LAST_TO_EXTEND : goal.returns-then-value-gt-LAST_TO_EXTEND
returns-then-value-gt-LAST_TO_EXTEND c = λ h.
    let large = read-large c.args.digits.now c.loop-digit.digit-index c.loop-digit.value c.loop-digit.invariant.read (omega arith) (omega arith) in
    absurd (omega (arith, large, h.1))
