use Rattle.std.proofs.Common.{◌≡◌, ◌++◌, drop, take}
use Rattle.journal_audit.specs.Reading.{first_line}
use Rattle.journal_audit.proofs.lines.first_line.Given as goal

-- no byte so far is a line feed
abbrev pub invariant-loop-place : goal.invariant-loop-place
invariant-loop-place l = first_line l.text ≡ take l.place l.text ++ first_line (drop l.place l.text)
