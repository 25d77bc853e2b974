use Rattle.std.proofs.Common.{take}
use Rattle.sdf_level.specs.Groups.{AreRenumbered}
use Rattle.sdf_level.proofs.groups.renumber.Given as goal

-- the actors so far have the number
abbrev pub invariant-loop-actor : goal.invariant-loop-actor
invariant-loop-actor l = AreRenumbered l.fn.number l.number (take l.actor-index l.actors) l.group
