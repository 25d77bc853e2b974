use Rattle.std.proofs.Common.{◌≡◌, [], take}
use Rattle.std.specs.List.{flat_map}
use Rattle.pisdf_model.specs.ParamOrder.{order_faults}
use Rattle.pisdf_model.proofs.ordering.param_order.Given as goal

abbrev pub invariant-loop-graph : goal.invariant-loop-graph
invariant-loop-graph l = flat_map order_faults (take l.graph-index l.graph-items) ≡ []
