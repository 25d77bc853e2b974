use Rattle.std.proofs.Common.{◌≡◌, drop, zip, reverse}
use Rattle.kernel_gate.specs.Tokens.{dot_product, running, plus_product}
use Rattle.kernel_set.proofs.sums.filtered.Given as goal

abbrev pub invariant-loop-j : goal.invariant-loop-j
invariant-loop-j l = running plus_product l.all (drop l.j (zip l.taps (reverse l.tokens))) ≡ dot_product l.taps (reverse l.tokens)
