use Rattle.param_expr.proofs.Numerals.{run_passes}
use Rattle.param_expr.specs.Words.{is_digit}
use Rattle.param_expr.proofs.symbol.token_at.Goals as goal

pub number-requires-clause-digits : goal.number-requires-clause-digits
number-requires-clause-digits c = rw c.digits_len-end.ensures (run_passes is_digit c.args.rest.now)
