use Rattle.std.proofs.Common.{take}
use Rattle.balance_solver.specs.Scaled.{AreScaled}
use Rattle.balance_solver.proofs.join.scale.Given as goal

-- the entries of the actors so far are multiplied
abbrev pub invariant-loop-actor : goal.invariant-loop-actor
invariant-loop-actor l = AreScaled l.fn.q l.q (take l.actor-index l.actors) l.times
