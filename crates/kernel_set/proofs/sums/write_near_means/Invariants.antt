use Rattle.std.proofs.Common.{◌≡◌, ◌+◌, length, take}
use Rattle.kernel_gate.specs.Tokens.{mean_of, places, last}
use Rattle.kernel_set.specs.Near.{last_sum}
use Rattle.kernel_set.proofs.Steps.{WrittenTo}
use Rattle.kernel_set.proofs.sums.write_near_means.Given as goal

abbrev pub invariant-loop-n : goal.invariant-loop-n
invariant-loop-n l =
    WrittenTo (λ n. mean_of (last l.width (take (n + 1) l.x))) (places (length l.o)) l.n l.o × (l.all ≡ last_sum l.width l.x l.n)
