use Rattle.std.proofs.Common.{Ok}
use Rattle.std.proofs.lemmas.Result.{err_from_is_err_and}
use Rattle.graph_reader.specs.Setting.{setting_of}
use Rattle.graph_reader.proofs.Placing.{fails_in, resolves_in}
use Rattle.graph_reader.proofs.resolved_graphs.resolve_graph.Goals as goal

pub returns-in_err-resolved : goal.returns-in_err-resolved
returns-in_err-resolved c = λ graphs of.
    let p = err_from_is_err_and c.from_residual-in_err-resolved.result c.from_residual-in_err-resolved.ensures.1 in
    rw (p.1, p.2) (fails_in (setting_of c.in_ok-surroundings.surroundings) _ c.args.graph.now c.in_err-resolved.field-0.0 (c.in_ok-surroundings.ensures graphs of) c.in_err-resolved.ensures)

pub returns : goal.returns
returns c = λ graphs of. resolves_in (setting_of c.in_ok-surroundings.surroundings) _ c.args.graph.now (Ok c.in_ok-resolved.resolved) (c.in_ok-surroundings.ensures graphs of) c.in_ok-resolved.ensures
