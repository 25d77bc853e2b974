use Rattle.std.proofs.Common.{◌≡◌}
use Rattle.sdf_level.specs.Lists.{lists_of}
use Rattle.order_memory.proofs.orders.as_lists.Given as goal

abbrev pub invariant-loop-vector : goal.invariant-loop-vector
invariant-loop-vector l = l.lists.items ≡ lists_of l.yielded
