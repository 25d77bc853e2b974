use Rattle.std.proofs.Common.{◌≡◌, take}
use Rattle.worker_mapping.specs.Graph.{greatest}
use Rattle.schedule_bound.proofs.critical.greatest_of.Given as goal

abbrev pub invariant-loop-p : goal.invariant-loop-p
invariant-loop-p l = l.most ≡ greatest (take l.p-index l.priority)
