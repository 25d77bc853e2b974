use Rattle.std.proofs.Common.{◌≡◌, take}
use Rattle.sdf_level.specs.Lists.{lists_of}
use Rattle.sdf_level.specs.LevelRun.{kept_at}
use Rattle.level_lines.proofs.ends.kept.Given as goal

-- what the sinks so far keep
abbrev pub invariant-loop-sink : goal.invariant-loop-sink
invariant-loop-sink l = l.lists.items ≡ kept_at 0 (take l.sink l.level.sinks) l.level.links (lists_of l.lines)
