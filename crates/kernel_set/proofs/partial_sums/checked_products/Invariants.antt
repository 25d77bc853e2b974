use Rattle.std.proofs.Common.{◌≡◌, drop, zip}
use Rattle.kernel_gate.specs.Tokens.{running, plus_product}
use Rattle.kernel_set.proofs.partial_sums.checked_products.Given as goal

abbrev pub invariant-loop-i : goal.invariant-loop-i
invariant-loop-i l = running plus_product l.all (drop l.i (zip l.x l.z)) ≡ running plus_product l.start (zip l.x l.z)
