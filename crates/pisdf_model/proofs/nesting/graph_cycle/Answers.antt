use Rattle.pisdf_model.proofs.Holding.{inside_holds, read_holds}
use Rattle.pisdf_model.proofs.nesting.graph_cycle.Goals as goal

pub first_on_cycle-requires : goal.first_on_cycle-requires
first_on_cycle-requires c =
    rw (read_holds c.args.graphs.now c.items.result.now c.in_ok-child_lists.child_lists.items c.deref.result.now c.items.ensures c.in_ok-child_lists.ensures c.deref.ensures.value)
    (inside_holds c.args.graphs.now c.requires)
