use Rattle.std.proofs.Common.{◌≤◌}
use Rattle.token_text.proofs.Digits.{IsReadTo}
use Rattle.token_text.proofs.token.magnitude.Given as goal

abbrev pub invariant-loop-digit : goal.invariant-loop-digit
invariant-loop-digit l = record {
  read : IsReadTo l.digits l.digit-index l.value;
  small : l.value ≤ 9223372036854775809;
}
