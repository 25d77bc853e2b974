use Rattle.std.proofs.Common.{◌≡◌, drop}
use Rattle.sdf_level.specs.Lists.{lists_of}
use Rattle.sdf_level.specs.LevelRun.{written}
use Rattle.level_lines.proofs.ends.written_to.Given as goal

-- no link so far leads to the sink
abbrev pub invariant-loop-i : goal.invariant-loop-i
invariant-loop-i l = written l.sink l.links (lists_of l.lines) ≡ written l.sink (drop l.i l.links) (drop l.i (lists_of l.lines))
