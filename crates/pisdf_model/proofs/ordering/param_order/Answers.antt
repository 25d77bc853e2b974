use Rattle.pisdf_model.specs.ParamOrder.{param_order_faults}
use Rattle.pisdf_model.proofs.InOrder.{item_refers, refuses_item, passed_on}
use Rattle.pisdf_model.proofs.ordering.param_order.Goals as goal

pub graph_order-requires : goal.graph_order-requires
graph_order-requires c = item_refers c.args.graphs.now.graphs c.items-graph-items.result.now c.loop-graph.graph-index c.graph-item.result c.items-graph-items.ensures c.loop-graph-test.true c.graph-item.is c.requires

pub returns-in_err-graph_order : goal.returns-in_err-graph_order
returns-in_err-graph_order c =
    let fault = c.in_err-graph_order.field-0.0 in
    let refused = refuses_item c.args.graphs.now.graphs c.items-graph-items.result.now c.loop-graph.graph-index c.graph-item.result c.items-graph-items.ensures c.loop-graph-test.true c.graph-item.is fault c.loop-graph.invariant c.in_err-graph_order.ensures in
    record { answer = passed_on (param_order_faults c.args.graphs.now) c.from_residual.result fault c.from_residual.ensures.1 refused }
