use Rattle.audit_job.specs.Offering.{IsFirstOf, IsOfferedIn, offer_at}
use Rattle.audit_job.proofs.offering.first_candidate.Given as goal

abbrev pub invariant-loop-place : goal.invariant-loop-place
invariant-loop-place l = IsFirstOf (IsOfferedIn l.graphs.graphs l.calls l.job) (offer_at l.job l.worker) l.job.candidates.items l.place l.best
