use Rattle.std.proofs.Common.{◌≡◌, ◌++◌, drop, string_bytes}
use Rattle.quiescent_driver.specs.Journals.{journal_text}
use Rattle.pisdf_program.proofs.journal_text.journal_text.Given as goal

-- the lines so far, and those of the entries that are left, are all
abbrev pub invariant-loop-place : goal.invariant-loop-place
invariant-loop-place l = string_bytes l.text ++ journal_text l.number (drop l.place l.journal.entries) ≡ journal_text l.number l.journal.entries
