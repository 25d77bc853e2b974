use Rattle.std.proofs.Common.{◌-◌, length}
use Rattle.sdf_level.specs.Lists.{lists_of}
use Rattle.audit_job.proofs.FiringPlaces.{AreFrom}
use Rattle.audit_job.proofs.outlets.firing_places.Given as goal

abbrev pub invariant-loop-back : goal.invariant-loop-back
invariant-loop-back l = AreFrom l.nodes l.counts (length l.nodes - l.back) (lists_of l.lists.items)
