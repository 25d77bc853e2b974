use Rattle.audit_job.specs.Candidates.{Adds}
use Rattle.audit_job.proofs.candidates.add_first.Given as goal

abbrev pub invariant-loop-item : goal.invariant-loop-item
invariant-loop-item l = Adds 0 l.item (λ n. Unit {0}) l.initial.candidates l.candidates
