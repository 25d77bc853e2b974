use Rattle.std.proofs.lemmas.Result.{err_from_is_err_and}
use Rattle.param_expr.proofs.Bound.{lhs_fails, rhs_fails, both_bind}
use Rattle.param_expr.proofs.binding.+bind_in.Goals as goal

pub returns-in_err-lhs-in-Binary : goal.returns-in_err-lhs-in-Binary
returns-in_err-lhs-in-Binary g t c =
    let p = err_from_is_err_and c.from_residual-in_err-lhs-in-Binary.result c.from_residual-in_err-lhs-in-Binary.ensures.1 in
    rw (p.1, p.2) (record { bound = lhs_fails (g.P.Places.names c.args.names.now) c.args.parsed.now c.in-Binary.op c.deref.result.now c.in-Binary.rhs.value c.in_err-lhs-in-Binary.field-0.0 (cc) c.in_err-lhs-in-Binary.ensures.bound })

pub returns-in_err-rhs-in-Binary : goal.returns-in_err-rhs-in-Binary
returns-in_err-rhs-in-Binary g t c =
    let p = err_from_is_err_and c.from_residual-in_err-rhs-in-Binary.result c.from_residual-in_err-rhs-in-Binary.ensures.1 in
    rw (p.1, p.2) (record { bound = rhs_fails (g.P.Places.names c.args.names.now) c.args.parsed.now c.in-Binary.op c.deref.result.now c.deref-in-Binary.result.now c.in_ok-lhs-in-Binary.lhs c.in_err-rhs-in-Binary.field-0.0 (cc) c.in_ok-lhs-in-Binary.ensures.bound c.in_err-rhs-in-Binary.ensures.bound })

pub returns-in_ok-binary-in-Binary : goal.returns-in_ok-binary-in-Binary
returns-in_ok-binary-in-Binary g t c =
    record { bound = both_bind (g.P.Places.names c.args.names.now) _ c.in-Binary.op c.deref.result.now c.deref-in-Binary.result.now _ _ _ (cc) c.in_ok-lhs-in-Binary.ensures.bound c.in_ok-rhs-in-Binary.ensures.bound c.in_ok-binary-in-Binary.ensures }
