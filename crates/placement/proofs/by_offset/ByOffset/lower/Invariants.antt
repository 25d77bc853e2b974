use Rattle.std.proofs.Common.{◌≡◌, length}
use Rattle.placement.specs.Placing.{in_order, HasReach}
use Rattle.placement.proofs.by_offset.ByOffset.lower.Given as goal

abbrev pub invariant-loop-self : goal.invariant-loop-self
invariant-loop-self l = record {
  same : in_order l.self ≡ in_order l.fn.self;
  reach : HasReach l.self;
}

abbrev pub decreases-loop-self : goal.decreases-loop-self
decreases-loop-self l = length l.self.low.items
