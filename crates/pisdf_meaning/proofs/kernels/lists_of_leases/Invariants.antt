use Rattle.std.proofs.Common.{◌≡◌, ◌≤◌, ◌+◌, ◌++◌, length, map, reverse, vec_capacity}
use Rattle.kernel_gate.specs.Leased.{AllWhole}
use Rattle.split_block.specs.View.{cells_of, lease_place}
use Rattle.pisdf_meaning.proofs.kernels.lists_of_leases.Given as goal

-- the cells of the leases left, and then those of the others
abbrev pub invariant-loop-lease : goal.invariant-loop-lease
invariant-loop-lease l = record {
  whole : AllWhole (map lease_place l.leases.items);
  cells : map cells_of l.leases.items ++ reverse l.lists.items ≡ map cells_of l.initial.leases.items;
  room : length l.leases.items + length l.lists.items ≤ vec_capacity l.lists;
}

abbrev pub decreases-loop-lease : goal.decreases-loop-lease
decreases-loop-lease l = goal.left-loop-lease l
