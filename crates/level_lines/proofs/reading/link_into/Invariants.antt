use Rattle.std.proofs.Common.{◌≡◌, ℕ, ◌<◌, false, get_or}
use Rattle.sdf_level.specs.Invariants.{is_into_port}
use Rattle.level_lines.specs.AtActors.{no_link}
use Rattle.level_lines.proofs.reading.link_into.Given as goal

-- none of the links so far leads to the port
abbrev pub invariant-loop-place : goal.invariant-loop-place
invariant-loop-place l = (i : ℕ) → i < l.place-index → is_into_port l.actor l.port (get_or l.links (get_or l.into i 0) no_link) ≡ false
