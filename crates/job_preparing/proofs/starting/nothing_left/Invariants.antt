use Rattle.std.proofs.Common.{◌≡◌, replicate}
use Rattle.job_preparing.specs.Standing.{nothing}
use Rattle.job_preparing.proofs.starting.nothing_left.Given as goal

abbrev pub invariant-loop-number : goal.invariant-loop-number
invariant-loop-number l = l.left.items ≡ replicate l.number nothing
