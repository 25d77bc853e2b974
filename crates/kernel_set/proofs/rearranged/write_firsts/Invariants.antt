use Rattle.std.proofs.Common.{◌≡◌, ℕ, ◌*◌, ◌<◌, get_or}
use Rattle.std.specs.Prelude.{pos}
use Rattle.kernel_set.proofs.rearranged.write_firsts.Given as goal

abbrev pub invariant-loop-n : goal.invariant-loop-n
invariant-loop-n l = (k : ℕ) → k < l.n → get_or l.o k (pos 0) ≡ get_or l.x (k * l.run) (pos 0)
