use Rattle.std.proofs.Common.{◌≡◌, ◌*◌, ◌^◌, drop, reverse, zip}
use Rattle.std.specs.Prelude.{pos, ◌≤ℤ◌, ◌+ℤ◌}
use Rattle.kernel_gate.specs.Tokens.{dot_product, running, plus_product}
use Rattle.kernel_set.proofs.partial_sums.near_filtered.Given as goal

abbrev pub invariant-loop-j : goal.invariant-loop-j
invariant-loop-j l =
    (running plus_product l.all (drop l.j (zip l.taps (reverse l.tokens))) ≡ dot_product l.taps (reverse l.tokens))
    × (l.all ≤ℤ (pos 0 +ℤ pos (l.j * 2 ^ 54))) × (pos 0 ≤ℤ (l.all +ℤ pos (l.j * 2 ^ 54)))
