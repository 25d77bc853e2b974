use Rattle.std.proofs.Common.{◌≡◌, take}
use Rattle.sdf_level.specs.Lists.{lists_of}
use Rattle.level_lines.proofs.Puts.{puts}
use Rattle.level_lines.proofs.putting.put.Given as goal

-- the lines with what the links so far got
abbrev pub invariant-loop-place : goal.invariant-loop-place
invariant-loop-place l = lists_of l.lines ≡ puts l.actor l.outputs l.level.links (take l.place-index l.place-items) (lists_of l.initial.lines)
