use Rattle.std.proofs.Common.{◌≡◌, ◌++◌, drop, string_bytes}
use Rattle.pisdf_program.specs.Lines.{left_words}
use Rattle.pisdf_program.proofs.line.push_left_over.Given as goal

-- what was written so far, and the words of the actors that are left, is all
abbrev pub invariant-loop-actor : goal.invariant-loop-actor
invariant-loop-actor l = string_bytes l.text ++ left_words (drop l.actor-index l.left) ≡ string_bytes l.fn.text ++ left_words l.left
