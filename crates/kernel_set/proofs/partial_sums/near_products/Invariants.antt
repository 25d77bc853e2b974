use Rattle.std.proofs.Common.{◌≡◌, ◌*◌, ◌^◌, drop, zip}
use Rattle.std.specs.Prelude.{pos, ◌≤ℤ◌, ◌+ℤ◌}
use Rattle.kernel_gate.specs.Tokens.{running, plus_product}
use Rattle.kernel_set.proofs.partial_sums.near_products.Given as goal

abbrev pub invariant-loop-i : goal.invariant-loop-i
invariant-loop-i l =
    (running plus_product l.all (drop l.i (zip l.x l.z)) ≡ running plus_product l.start (zip l.x l.z))
    × (l.all ≤ℤ (l.start +ℤ pos (l.i * 2 ^ 54))) × (l.start ≤ℤ (l.all +ℤ pos (l.i * 2 ^ 54)))
