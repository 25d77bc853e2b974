use Rattle.std.proofs.Common.{◌≡◌, ◌+◌, ◌≤◌, drop}
use Rattle.sdf_level.specs.Invariants.{how_many}
use Rattle.single_rate.specs.Names.{is_from_actor}
use Rattle.job_compiler.proofs.ends.links_from.Given as goal

abbrev pub invariant-loop-link : goal.invariant-loop-link
invariant-loop-link l = record { rest : l.count + how_many (is_from_actor l.actor) (drop l.link-index l.links) ≡ how_many (is_from_actor l.actor) l.links; few : l.count ≤ l.link-index }
