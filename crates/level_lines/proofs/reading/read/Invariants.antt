use Rattle.std.proofs.Common.{◌≡◌}
use Rattle.sdf_level.specs.Lists.{lists_of}
use Rattle.sdf_level.specs.Run.{inputs_below}
use Rattle.level_lines.proofs.reading.read.Given as goal

-- what is read at the ports so far
abbrev pub invariant-loop-port : goal.invariant-loop-port
invariant-loop-port l = l.lists.items ≡ inputs_below l.sources l.actor l.turn l.port l.level.links (lists_of l.lines)
