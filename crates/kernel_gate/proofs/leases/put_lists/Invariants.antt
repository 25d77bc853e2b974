use Rattle.std.proofs.Common.{◌≡◌, ◌≤◌, ◌+◌, ◌++◌, length, map, vec_capacity, vec_len}
use Rattle.std.specs.Vec.Iter.{into_iter_items, into_iter_len}
use Rattle.split_block.specs.View.{cells_of, lease_place}
use Rattle.kernel_gate.specs.Leased.{AllWhole}
use Rattle.kernel_gate.proofs.leases.put_lists.Given as goal

abbrev pub invariant-loop-cells : goal.invariant-loop-cells
invariant-loop-cells l = (map cells_of l.leases.items ++ into_iter_items l.cells-iterator ≡ l.fn.lists.items)
    × AllWhole (map lease_place l.leases.items)
    × (vec_len l.leases + length (into_iter_items l.cells-iterator) ≤ vec_capacity l.leases)
    × (into_iter_len l.cells-iterator ≡ length (into_iter_items l.cells-iterator))
