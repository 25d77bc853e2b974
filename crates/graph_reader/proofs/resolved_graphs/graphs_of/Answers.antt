use Rattle.std.proofs.lemmas.Result.{err_from_is_err_and}
use Rattle.std.proofs.Common.{map}
use Rattle.kernel_gate.specs.Signed.{signature_view}
use Rattle.graph_format.specs.Kernels.{kernel_names}
use Rattle.graph_reader.proofs.Placing.{graphs_fail, graphs_found}
use Rattle.graph_reader.proofs.resolved_graphs.graphs_of.Goals as goal

pub returns-in_err-graphs : goal.returns-in_err-graphs
returns-in_err-graphs c =
    let p = err_from_is_err_and c.from_residual-in_err-graphs.result c.from_residual-in_err-graphs.ensures.1 in
    rw (p.1, p.2) (graphs_fail c.in_ok-names.names c.args.file.now c.items-parts.result.now c.in_ok-top.top c.in_err-graphs.field-0.0 c.items-parts.ensures c.in_ok-names.ensures.graphs c.in_ok-top.ensures c.in_err-graphs.ensures)

pub returns : goal.returns
returns c =
    graphs_found c.in_ok-names.names (kernel_names (map signature_view c.args.signatures.now)) c.args.file.now c.items-parts.result.now c.args.delays c.in_ok-top.top c.in_ok-graphs.graphs c.items-parts.ensures c.in_ok-names.ensures.kernels c.in_ok-names.ensures.graphs c.in_ok-top.ensures c.in_ok-graphs.ensures
