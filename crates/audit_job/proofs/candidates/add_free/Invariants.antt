use Rattle.audit_job.proofs.AddedSoFar.{AddsSoFar}
use Rattle.audit_job.proofs.candidates.add_free.Given as goal

abbrev pub invariant-loop-node : goal.invariant-loop-node
invariant-loop-node l = AddsSoFar l.first l.node l.waits l.initial.candidates l.candidates
