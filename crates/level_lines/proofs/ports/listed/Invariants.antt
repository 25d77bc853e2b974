use Rattle.std.proofs.Common.{take}
use Rattle.sdf_level.specs.Lists.{lists_of}
use Rattle.level_lines.specs.AtActors.{AreListed}
use Rattle.level_lines.proofs.ports.listed.Given as goal

-- the lists of the links so far
abbrev pub invariant-loop-i : goal.invariant-loop-i
invariant-loop-i l = AreListed l.actors l.side (take l.i l.links) (lists_of l.lists.items)
