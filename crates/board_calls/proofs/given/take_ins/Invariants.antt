use Rattle.std.proofs.Common.{◌≡◌, ◌++◌, drop}
use Rattle.kernel_gate.specs.Value.{lengths}
use Rattle.board_calls.proofs.given.take_ins.Given as goal

-- as many as were needed so far, and as the rest needs, is all
abbrev pub invariant-loop-place : goal.invariant-loop-place
invariant-loop-place l = lengths l.ins.items ++ drop l.place l.needs ≡ l.needs
