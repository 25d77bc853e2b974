use Rattle.std.proofs.Common.{◌≡◌, ◌≤◌, ◌-◌, length, drop}
use Rattle.kernel_gate.specs.Tokens.{running, total}
use Rattle.kernel_set.specs.Near.{plus}
use Rattle.kernel_set.proofs.partial_sums.total.Given as goal

abbrev pub invariant-loop-from : goal.invariant-loop-from
invariant-loop-from l = (l.from ≤ length l.x) × (running plus l.all (drop l.from l.x) ≡ total l.x)

abbrev pub decreases-loop-from : goal.decreases-loop-from
decreases-loop-from l = length l.x - l.from
