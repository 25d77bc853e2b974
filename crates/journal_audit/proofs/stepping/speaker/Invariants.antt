use Rattle.std.proofs.Common.{ℕ, ◌<◌}
use Rattle.journal_audit.specs.Stepping.{Begins}
use Rattle.journal_audit.proofs.stepping.speaker.Given as goal

-- the line begins as the next one of no worker so far
abbrev pub invariant-loop-worker : goal.invariant-loop-worker
invariant-loop-worker l = (w : ℕ) → w < l.worker → ¬ (Begins l.number l.running l.line w)
