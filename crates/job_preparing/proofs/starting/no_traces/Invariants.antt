use Rattle.std.proofs.Common.{◌≡◌, [], replicate}
use Rattle.job_preparing.proofs.starting.no_traces.Given as goal

abbrev pub invariant-loop-number : goal.invariant-loop-number
invariant-loop-number l = l.traces.items ≡ replicate l.number []
