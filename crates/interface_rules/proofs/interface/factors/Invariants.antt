use Rattle.std.proofs.Common.{take}
use Rattle.interface_rules.specs.Served.{AreServed}
use Rattle.interface_rules.proofs.interface.factors.Given as goal

-- the factors are those for the links so far
abbrev pub invariant-loop-i : goal.invariant-loop-i
invariant-loop-i l = AreServed l.level (take l.i l.level.links) l.base l.group l.factors.items
