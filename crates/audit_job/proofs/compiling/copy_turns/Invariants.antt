use Rattle.std.proofs.Common.{◌≡◌, take}
use Rattle.audit_job.proofs.compiling.copy_turns.Given as goal

abbrev pub invariant-loop-turn : goal.invariant-loop-turn
invariant-loop-turn l = l.copies.items ≡ take l.turn-index l.turns
