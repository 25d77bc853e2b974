use Rattle.std.proofs.Common.{◌≡◌, map, take}
use Rattle.sdf_level.specs.declared.link.Link.{Link}
use Rattle.job_calls.proofs.starting.delays_of.Given as goal

abbrev pub invariant-loop-link : goal.invariant-loop-link
invariant-loop-link l = l.delays.items ≡ map (λ (link : Link). link.delay) (take l.link-index l.links)
