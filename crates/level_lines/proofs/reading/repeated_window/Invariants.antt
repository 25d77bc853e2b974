use Rattle.std.proofs.Common.{◌≡◌}
use Rattle.sdf_level.specs.Interfaces.{repeated}
use Rattle.level_lines.proofs.reading.repeated_window.Given as goal

-- the tokens so far
abbrev pub invariant-loop-i : goal.invariant-loop-i
invariant-loop-i l = l.tokens.items ≡ repeated l.source l.start l.i
