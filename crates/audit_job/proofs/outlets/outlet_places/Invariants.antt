use Rattle.std.proofs.Common.{◌-◌, length}
use Rattle.audit_job.proofs.OutletPlaces.{AreFrom}
use Rattle.audit_job.proofs.outlets.outlet_places.Given as goal

abbrev pub invariant-loop-back : goal.invariant-loop-back
invariant-loop-back l = AreFrom l.nodes l.outlet l.count (length l.nodes - l.back) l.places.items
