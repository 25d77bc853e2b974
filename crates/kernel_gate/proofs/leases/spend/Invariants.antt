use Rattle.std.proofs.Common.{map}
use Rattle.split_block.specs.View.{lease_place}
use Rattle.kernel_gate.specs.Leased.{AllWhole}
use Rattle.kernel_gate.proofs.leases.spend.Given as goal

abbrev pub invariant-loop-lease : goal.invariant-loop-lease
invariant-loop-lease l = AllWhole (map lease_place l.leases.items)

abbrev pub decreases-loop-lease : goal.decreases-loop-lease
decreases-loop-lease l = goal.left-loop-lease l
