use Rattle.std.proofs.Common.{◌≡◌, ℕ, ◌+◌, ◌*◌, ◌<◌, get_or}
use Rattle.std.specs.Prelude.{pos}
use Rattle.kernel_set.proofs.rearranged.write_column.Given as goal

abbrev pub invariant-loop-a : goal.invariant-loop-a
invariant-loop-a l = (k : ℕ) → k < l.a → get_or l.o k (pos 0) ≡ get_or l.x (k * l.cols + l.c) (pos 0)
