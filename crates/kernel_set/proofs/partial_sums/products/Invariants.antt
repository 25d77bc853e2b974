use Rattle.std.proofs.Common.{◌≡◌, ◌≤◌, ◌-◌, length, drop, zip}
use Rattle.kernel_gate.specs.Tokens.{running, plus_product, dot_product}
use Rattle.kernel_set.proofs.partial_sums.products.Given as goal

abbrev pub invariant-loop-from : goal.invariant-loop-from
invariant-loop-from l = (l.from ≤ length l.x) × (running plus_product l.all (drop l.from (zip l.x l.z)) ≡ dot_product l.x l.z)

abbrev pub decreases-loop-from : goal.decreases-loop-from
decreases-loop-from l = length l.x - l.from
