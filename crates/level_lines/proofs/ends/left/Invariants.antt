use Rattle.std.proofs.Common.{◌≡◌, take}
use Rattle.sdf_level.specs.Lists.{lists_of}
use Rattle.sdf_level.specs.LevelRun.{left_of}
use Rattle.level_lines.proofs.ends.left.Given as goal

-- what is left on the links so far
abbrev pub invariant-loop-i : goal.invariant-loop-i
invariant-loop-i l = l.lists.items ≡ left_of l.counts (take l.i l.level.links) (take l.i (lists_of l.lines))
