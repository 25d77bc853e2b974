use Rattle.job_compiler.specs.Ends.{AreRows}
use Rattle.job_compiler.proofs.ends.enter.Given as goal

abbrev pub invariant-loop-e : goal.invariant-loop-e
invariant-loop-e l = AreRows l.counts l.ends l.e l.rows
