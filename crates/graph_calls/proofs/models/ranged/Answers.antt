use Rattle.std.proofs.Common.{refl}
use Rattle.pisdf_model.proofs.Referring.{each_refers_to_params}
use Rattle.graph_calls.proofs.models.ranged.Goals as goal

pub param_order-requires : goal.param_order-requires
param_order-requires c = each_refers_to_params c.args.graphs.now (c.if-not-in_range.ensures.0 refl)
