use Rattle.std.proofs.Common.{length}
use Rattle.frame_calls.proofs.leases.+cut_in_ones.Given as goal

abbrev pub decreases-cut_in_ones : goal.decreases-cut_in_ones
decreases-cut_in_ones l = length l.lease.cells
