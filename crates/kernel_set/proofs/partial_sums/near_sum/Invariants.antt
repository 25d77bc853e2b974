use Rattle.std.proofs.Common.{◌≡◌, ◌*◌, ◌^◌, drop}
use Rattle.std.specs.Prelude.{pos, ◌≤ℤ◌, ◌+ℤ◌}
use Rattle.kernel_gate.specs.Tokens.{running}
use Rattle.kernel_set.specs.Near.{plus}
use Rattle.kernel_set.proofs.partial_sums.near_sum.Given as goal

abbrev pub invariant-loop-i : goal.invariant-loop-i
invariant-loop-i l =
    (running plus l.all (drop l.i l.x) ≡ running plus l.start l.x)
    × (l.all ≤ℤ (l.start +ℤ pos (l.i * 2 ^ 27))) × (l.start ≤ℤ (l.all +ℤ pos (l.i * 2 ^ 27)))
