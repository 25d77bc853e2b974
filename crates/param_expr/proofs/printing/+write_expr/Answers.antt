use Rattle.std.proofs.Common.{◌≡◌, ◌∙◌, sym, ap}
use Rattle.std.specs.Prelude.{string_bytes}
use Rattle.param_expr.specs.Tree.{binary}
use Rattle.param_expr.specs.View.{tree_of}
use Rattle.param_expr.specs.Print.{with_names}
use Rattle.param_expr.proofs.Pieces.{operation_written, on_ok}
use Rattle.param_expr.proofs.printing.+write_expr.Goals as goal

pub returns-in_ok-append-in-Binary-4-clause-written : goal.returns-in_ok-append-in-Binary-4-clause-written
returns-in_ok-append-in-Binary-4-clause-written t c =
    let whole : binary c.in-Binary.op c.deref.result.now c.deref-in-Binary.result.now ≡ c.args.expr.now =
    ap (λ l. binary c.in-Binary.op l c.deref-in-Binary.result.now) c.deref.ensures
    ∙ ap (binary c.in-Binary.op c.in-Binary.lhs.value) c.deref-in-Binary.ensures
    ∙ sym (ap tree_of c.in-Binary.is)
    ∙ c.expr.view_is in
    on_ok c.append-in-Binary-5.result _ _ c.append-in-Binary-5.ensures (λ last.
    operation_written c.args.asked c.in-Binary.op (with_names c.args.names.now c.deref.result.now) (with_names c.args.names.now c.deref-in-Binary.result.now) (with_names c.args.names.now c.args.expr.now)
    c.level.result c.lhs_asks.result c.rhs_asks.result
    (string_bytes c.args.text.now) (string_bytes c.append-in-Binary.new.text) (string_bytes c.append-in-Binary-2.new.text) (string_bytes c.write_expr.new.text) (string_bytes c.append-in-Binary-3.new.text) (string_bytes c.write_expr-in-Binary.new.text) (string_bytes c.append-in-Binary-4.new.text) (string_bytes c.append-in-Binary-5.new.text)
    c.opening.result.now c.before-in-Binary.result.now c.between.result.now c.after.result.now c.closing.result.now
    (ap (with_names c.args.names.now) whole)
    c.level.ensures c.lhs_asks.ensures c.rhs_asks.ensures
    c.opening.ensures c.before-in-Binary.ensures c.between.ensures c.after.ensures c.closing.ensures
    c.in_ok-append-in-Binary.ensures c.in_ok-append-in-Binary-2.ensures c.in_ok-write_expr-in-Binary.ensures.written c.in_ok-append-in-Binary-3.ensures c.in_ok-write_expr-in-Binary-2.ensures.written c.in_ok-append-in-Binary-4.ensures last)
