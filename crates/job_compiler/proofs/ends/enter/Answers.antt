use Rattle.std.proofs.Common.{◌≡◌, ◌+◌, length, subst, sym, arith}
use Rattle.job_compiler.specs.Ends.{AreRows, end_at}
use Rattle.job_compiler.proofs.RowSteps.{rows_first, rows_step}
use Rattle.job_compiler.proofs.ends.enter.Goals as goal

pub loop-e-init : goal.loop-e-init
loop-e-init c = rows_first c.args.counts.now c.args.ends.now c.in_ok-rows.rows c.in_ok-rows.ensures

pub put-requires-clause-there : goal.put-requires-clause-there
put-requires-clause-there c =
    let there = c.requires.rows.there c.loop-e.e c.loop-e-test.true in
    omega (arith, there, c.loop-e.invariant.one_each)

pub put-requires-clause-port : goal.put-requires-clause-port
put-requires-clause-port c =
    let there = c.requires.rows.there c.loop-e.e c.loop-e-test.true in
    let port = c.requires.rows.ports c.loop-e.e c.loop-e-test.true in
    omega (arith, port, c.loop-e.invariant.longs (end_at c.args.ends.now c.loop-e.e).0 there)

pub loop-e-preserved : goal.loop-e-preserved
loop-e-preserved c =
    subst (AreRows c.args.counts.now c.args.ends.now (c.loop-e.e + 1)) (sym c.put.ensures)
    (rows_step c.args.counts.now c.args.ends.now c.loop-e.e c.loop-e.rows c.requires.rows c.loop-e-test.true c.loop-e.invariant)

pub returns : goal.returns
returns c =
    let all : c.loop-e.e ≡ length c.args.ends.now = omega arith in
    subst (λ k. AreRows c.args.counts.now c.args.ends.now k c.loop-e.rows) all c.loop-e.invariant
