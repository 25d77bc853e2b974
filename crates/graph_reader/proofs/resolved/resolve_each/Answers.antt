use Rattle.std.proofs.lemmas.Result.{err_from_is_err_and}
use Rattle.graph_reader.specs.Setting.{setting_of}
use Rattle.graph_reader.proofs.Each.{first_at, goes_on, is_done}
use Rattle.graph_reader.proofs.resolved.resolve_each.Goals as goal

pub returns-in_err-one : goal.returns-in_err-one
returns-in_err-one g c =
    let s = setting_of c.args.surroundings.now in
    let p = err_from_is_err_and c.from_residual.result c.from_residual.ensures.1 in
    rw (p.1, p.2) (first_at (g.T.Resolved.unknown s) c.args.sources.now c.loop-source.source-index c.source-item.result c.in_err-one.field-0.0 c.loop-source-test.true c.source-item.is c.loop-source.invariant.known c.in_err-one.ensures)

pub loop-source-preserved : goal.loop-source-preserved
loop-source-preserved g c =
    let s = setting_of c.args.surroundings.now in
    rw c.in_ok-push.ensures.items (goes_on (g.T.Resolved.unknown s) (g.T.Resolved.placed s) c.args.sources.now c.loop-source.source-index c.source-item.result c.in_ok-one.one c.loop-source.resolved.items c.loop-source-test.true c.source-item.is c.in_ok-one.ensures c.loop-source.invariant)

pub returns : goal.returns
returns g c =
    let s = setting_of c.args.surroundings.now in
    rw c.new.ensures (is_done (g.T.Resolved.unknown s) (g.T.Resolved.placed s) c.args.sources.now c.loop-source.source-index c.loop-source.resolved.items c.loop-source-test.false c.loop-source.invariant)
