use Rattle.std.proofs.Common.{◌≡◌, take}
use Rattle.order_memory.specs.Orders.{after_of}
use Rattle.order_memory.proofs.orders.after_pairs.Given as goal

abbrev pub invariant-loop-order : goal.invariant-loop-order
invariant-loop-order l = l.after.items ≡ after_of l.edges (take l.order-index l.orders)
