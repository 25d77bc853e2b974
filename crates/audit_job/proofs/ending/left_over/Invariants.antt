use Rattle.std.proofs.Common.{◌≡◌, ◌++◌, drop}
use Rattle.job_flow.specs.Outcomes.{left_over}
use Rattle.audit_job.specs.Flowing.{results_of}
use Rattle.audit_job.specs.Marks.{answers}
use Rattle.audit_job.proofs.ending.left_over.Given as goal

abbrev pub invariant-loop-link : goal.invariant-loop-link
invariant-loop-link l = l.left.items ++ left_over l.nodes (results_of l.nodes l.keeps (answers l.marks)) l.link (drop l.link l.links) ≡ left_over l.nodes (results_of l.nodes l.keeps (answers l.marks)) 0 l.links
