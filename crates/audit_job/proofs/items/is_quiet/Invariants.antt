use Rattle.std.proofs.Common.{◌≡◌, ℕ, ◌<◌, true}
use Rattle.std.specs.Prelude.{slice_index}
use Rattle.job_rules.specs.Items.{rule}
use Rattle.nested_jobs.specs.Steps.{is_settled}
use Rattle.audit_job.specs.Marks.{answers, mark_at}
use Rattle.audit_job.proofs.items.is_quiet.Given as goal

abbrev pub invariant-loop-place : goal.invariant-loop-place
invariant-loop-place l = (k : ℕ) → k < l.place → is_settled (mark_at l.job.marks.items (slice_index l.job.candidates.items k)) (rule l.graphs.graphs l.job.firing (answers l.job.marks.items) (slice_index l.job.candidates.items k)) ≡ true
