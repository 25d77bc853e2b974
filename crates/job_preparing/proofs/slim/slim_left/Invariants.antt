use Rattle.std.proofs.Common.{◌≡◌, map, take}
use Rattle.job_preparing.specs.Slim.{slim_one}
use Rattle.job_preparing.proofs.slim.slim_left.Given as goal

abbrev pub invariant-loop-one : goal.invariant-loop-one
invariant-loop-one l = l.slim.items ≡ map slim_one (take l.one-index l.left)
