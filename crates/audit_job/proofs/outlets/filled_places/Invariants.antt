use Rattle.std.proofs.Common.{take}
use Rattle.sdf_level.specs.Lists.{lists_of}
use Rattle.audit_job.specs.Outlets.{AreFilled}
use Rattle.audit_job.proofs.outlets.filled_places.Given as goal

abbrev pub invariant-loop-count : goal.invariant-loop-count
invariant-loop-count l = AreFilled (take l.count-index l.counts) l.number (lists_of l.lists.items)
