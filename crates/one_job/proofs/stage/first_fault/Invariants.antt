use Rattle.std.proofs.Common.{◌≡◌, ◌-◌, length, map}
use Rattle.job_flow.specs.Outcomes.{failure_from}
use Rattle.one_job.specs.Marks.{values}
use Rattle.one_job.specs.Staged.{mark_of}
use Rattle.one_job.proofs.stage.first_fault.Given as goal

abbrev pub invariant-loop-n : goal.invariant-loop-n
invariant-loop-n l = failure_from (values (map mark_of l.stages)) l.n (length l.stages - l.n) ≡ failure_from (values (map mark_of l.stages)) 0 (length l.stages)
