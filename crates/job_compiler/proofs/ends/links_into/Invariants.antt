use Rattle.std.proofs.Common.{◌≡◌, ◌+◌, ◌≤◌, drop}
use Rattle.sdf_level.specs.Invariants.{how_many}
use Rattle.sdf_level.specs.Run.{is_into_actor}
use Rattle.job_compiler.proofs.ends.links_into.Given as goal

abbrev pub invariant-loop-link : goal.invariant-loop-link
invariant-loop-link l = record { rest : l.count + how_many (is_into_actor l.actor) (drop l.link-index l.links) ≡ how_many (is_into_actor l.actor) l.links; few : l.count ≤ l.link-index }
