use Rattle.std.proofs.Common.{◌≡◌, ◌++◌, drop, string_bytes}
use Rattle.pisdf_program.specs.Lines.{left_lines}
use Rattle.pisdf_program.proofs.line.left_lines.Given as goal

-- the lines so far, and those of the streams that are left, are all
abbrev pub invariant-loop-input : goal.invariant-loop-input
invariant-loop-input l =
    string_bytes l.text ++ left_lines (drop l.input l.inputs) (drop l.input l.left) ≡ left_lines l.inputs l.left
