use Rattle.std.proofs.Common.{ℕ, ◌<◌}
use Rattle.journal_audit.specs.Table.{IsAt, row_at}
use Rattle.journal_audit.proofs.table.key_of.Given as goal

-- no row so far is at the place
abbrev pub invariant-loop-key : goal.invariant-loop-key
invariant-loop-key l = (k : ℕ) → k < l.key → ¬ (IsAt l.place (row_at l.rows k))
