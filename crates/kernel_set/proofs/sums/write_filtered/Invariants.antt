use Rattle.std.proofs.Common.{length, reverse}
use Rattle.kernel_gate.specs.Tokens.{dot_product, places, window}
use Rattle.kernel_set.proofs.Steps.{WrittenTo}
use Rattle.kernel_set.proofs.sums.write_filtered.Given as goal

abbrev pub invariant-loop-n : goal.invariant-loop-n
invariant-loop-n l = WrittenTo (λ n. dot_product l.taps (reverse (window l.x n (length l.taps)))) (places (length l.o)) l.n l.o
