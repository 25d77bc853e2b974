use Rattle.std.proofs.Common.{◌≡◌, ◌≤◌, length, ap, arith}
use Rattle.std.proofs.lemmas.Result.{err_from_is_err_and}
use Rattle.param_expr.proofs.Turning.{read_whole, read_short}
use Rattle.param_expr.proofs.reader.read.Goals as goal

pub returns-in_err-parsed : goal.returns-in_err-parsed
returns-in_err-parsed c =
    let p = err_from_is_err_and c.from_residual-in_err-parsed.result c.from_residual-in_err-parsed.ensures.1 in
    let same : length c.as_bytes-bytes.result.now ≡ length c.args.text.now = ap length c.as_bytes-bytes.ensures.value in
    let over : length c.args.text.now ≤ c.loop-reader.reader.at = omega arith in
    rw (p.1, p.2) (read_short c.args.text.now c.loop-reader.reader c.in_err-parsed.field-0.0 _ over same c.loop-reader.invariant.outcome_is c.in_err-parsed.ensures)

pub returns : goal.returns
returns c =
    let same : length c.as_bytes-bytes.result.now ≡ length c.args.text.now = ap length c.as_bytes-bytes.ensures.value in
    let over : length c.args.text.now ≤ c.loop-reader.reader.at = omega arith in
    read_whole c.args.text.now c.loop-reader.reader c.in_ok-parsed.parsed over c.loop-reader.invariant.outcome_is c.loop-reader.invariant.tally_is c.in_ok-parsed.ensures
