use Rattle.std.proofs.Common.{◌≡◌, ◌++◌, take}
use Rattle.order_memory.specs.Orders.{neighbours}
use Rattle.order_memory.proofs.orders.add_neighbours.Given as goal

abbrev pub invariant-loop-place : goal.invariant-loop-place
invariant-loop-place l = l.after.items ≡ l.initial.after.items ++ neighbours (take l.place l.order)
