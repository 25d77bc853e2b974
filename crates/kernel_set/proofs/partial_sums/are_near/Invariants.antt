use Rattle.std.proofs.Common.{◌≡◌, ℕ, ◌<◌, true, get_or}
use Rattle.std.specs.Prelude.{pos}
use Rattle.kernel_set.specs.Near.{IsNear}
use Rattle.kernel_set.proofs.partial_sums.are_near.Given as goal

abbrev pub invariant-loop-t : goal.invariant-loop-t
invariant-loop-t l = l.near ≡ true → (n : ℕ) → n < l.t-index → IsNear (get_or l.x n (pos 0))
