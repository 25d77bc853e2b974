use Rattle.std.proofs.Common.{◌≡◌, ◌<◌, ℕ, length, take, get_or}
use Rattle.std.specs.Prelude.{pos, count_by}
use Rattle.kernel_gate.specs.Counted.{in_bin}
use Rattle.kernel_set.proofs.counted.write_counts.Given as goal

abbrev pub invariant-loop-t : goal.invariant-loop-t
invariant-loop-t l = (b : ℕ) → b < length l.o → get_or l.o b (pos 0) ≡ pos (count_by (in_bin l.low l.width b) (take l.t-index l.x))
