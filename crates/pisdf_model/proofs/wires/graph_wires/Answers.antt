use Rattle.std.proofs.Common.{◌∙◌}
use Rattle.pisdf_model.specs.Wires.{graph_wires}
use Rattle.pisdf_model.proofs.InOrder.{passed_on}
use Rattle.pisdf_model.proofs.Standing.{actors_told, interface_told}
use Rattle.pisdf_model.proofs.wires.graph_wires.Goals as goal

pub returns-in_err-interfaces_stand : goal.returns-in_err-interfaces_stand
returns-in_err-interfaces_stand c =
    let fault = c.in_err-interfaces_stand.field-0.0 in
    let told = interface_told c.args.graphs.now c.args.graph.now c.in_ok-times.times c.items.result.now c.as_slice.result.now c.as_slice-2.result.now c.items.ensures (c.as_slice.ensures.value ∙ c.in_ok-ends.ensures) (c.as_slice-2.ensures.value ∙ c.in_ok-names.ensures) c.in_ok-times.ensures c.in_ok-fifos_run.ensures in
    passed_on (graph_wires c.args.graphs.now c.args.graph.now) c.from_residual-in_err-interfaces_stand.result fault c.from_residual-in_err-interfaces_stand.ensures.1 (told fault c.in_err-interfaces_stand.ensures)

pub returns : goal.returns
returns c =
    actors_told c.args.graphs.now c.args.graph.now c.in_ok-times.times c.items.result.now c.as_slice.result.now c.as_slice-2.result.now c.items.ensures (c.as_slice.ensures.value ∙ c.in_ok-ends.ensures) (c.as_slice-2.ensures.value ∙ c.in_ok-names.ensures) c.in_ok-times.ensures c.in_ok-fifos_run.ensures c.actors_stand.result c.items-2.result.now c.items-2.ensures c.in_ok-interfaces_stand.ensures c.actors_stand.ensures
