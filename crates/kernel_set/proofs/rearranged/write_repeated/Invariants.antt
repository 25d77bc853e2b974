use Rattle.std.proofs.Common.{◌≡◌, ◌*◌, take, replicate}
use Rattle.std.specs.Prelude.{ℤ}
use Rattle.std.specs.List.{flat_map}
use Rattle.kernel_set.proofs.rearranged.write_repeated.Given as goal

abbrev pub invariant-loop-i : goal.invariant-loop-i
invariant-loop-i l = take (l.i * l.times) l.o ≡ flat_map (λ (t : ℤ). replicate l.times t) (take l.i l.x)
