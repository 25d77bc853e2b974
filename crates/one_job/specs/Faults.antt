-- The first fault, by stages.
use Rattle.std.specs.Prelude.{ℕ, List, map, length, Option, Some, None}
use Rattle.job_flow.specs.Outcomes.{Failure, failure_from}
use Rattle.one_job.specs.Marks.{values}
use Rattle.one_job.specs.Staged.{mark_of}
use Rattle.one_job.specs.declared.stage.Stage.{Stage}

abbrev pub pair_of : Option (Failure ℕ) → Option (ℕ × ℕ)
pair_of None = None
pair_of (Some first) = Some (first.node, first.fault)

-- the least number of a node that failed, and its code
abbrev pub first_failure : List Stage → Option (ℕ × ℕ)
first_failure stages = pair_of (failure_from (values (map mark_of stages)) 0 (length stages))
