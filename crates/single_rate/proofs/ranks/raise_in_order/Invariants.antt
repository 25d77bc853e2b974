use Rattle.std.proofs.Common.{◌≡◌, length}
use Rattle.single_rate.specs.Raising.{AreReached}
use Rattle.single_rate.proofs.ranks.raise_in_order.Given as goal

abbrev pub invariant-loop-number : goal.invariant-loop-number
invariant-loop-number g l = (length l.ranks ≡ length l.initial.ranks) × AreReached l.edges l.ranks
