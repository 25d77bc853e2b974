use Rattle.std.proofs.Common.{◌≡◌, ◌++◌, drop}
use Rattle.job_flow.specs.Outcomes.{sunk}
use Rattle.audit_job.specs.Flowing.{results_of}
use Rattle.audit_job.specs.Marks.{answers}
use Rattle.audit_job.proofs.ending.sunk.Given as goal

abbrev pub invariant-loop-sink : goal.invariant-loop-sink
invariant-loop-sink l = l.outs.items ++ sunk l.nodes (results_of l.nodes l.keeps (answers l.marks)) l.sink (drop l.sink l.rates) ≡ sunk l.nodes (results_of l.nodes l.keeps (answers l.marks)) 0 l.rates
