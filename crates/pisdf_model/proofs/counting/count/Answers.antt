use Rattle.std.proofs.Common.{◌∙◌}
use Rattle.std.proofs.lemmas.Result.{err_from_is_err_and}
use Rattle.pisdf_model.proofs.CountedFaults.{count_goes_on, count_refused}
use Rattle.pisdf_model.proofs.counting.count.Goals as goal

pub returns-in_err-graph_count : goal.returns-in_err-graph_count
returns-in_err-graph_count c =
    let p = err_from_is_err_and c.from_residual-in_err-graph_count.result c.from_residual-in_err-graph_count.ensures.1 in
    let refused = c.in_err-graph_count.ensures c.items-all.result.now (c.deref.ensures.value ∙ c.in_ok-large.ensures) c.loop-number-test.true in
    rw (p.1, p.2) (count_refused c.args.graphs.now c.items-all.result.now c.items-all.ensures c.loop-number.number c.index-all-number.result c.loop-number-test.true c.index-all-number.is c.loop-number.invariant c.in_err-graph_count.field-0.0 c.if-all-gt-MAX_GRAPHS.false refused)

pub loop-number-preserved : goal.loop-number-preserved
loop-number-preserved c =
    count_goes_on c.args.graphs.now c.items-all.result.now c.items-all.ensures c.loop-number.number c.index-all-number.result c.loop-number-test.true c.index-all-number.is c.loop-number.invariant
    (c.in_ok-graph_count.ensures c.items-all.result.now (c.deref.ensures.value ∙ c.in_ok-large.ensures) c.loop-number-test.true)
