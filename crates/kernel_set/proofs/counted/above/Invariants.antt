use Rattle.std.proofs.Common.{◌≡◌, take}
use Rattle.kernel_gate.specs.Counted.{larger}
use Rattle.kernel_set.proofs.counted.above.Given as goal

abbrev pub invariant-loop-t : goal.invariant-loop-t
invariant-loop-t l = l.count ≡ larger (take l.t-index l.x) l.limit
