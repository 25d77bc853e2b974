use Rattle.std.proofs.Common.{◌≡◌, ◌<◌, length, All}
use Rattle.placement.specs.Placing.{in_order, HasReach}
use Rattle.placement.specs.declared.gap.Placed.{Placed}
use Rattle.placement.proofs.by_offset.ByOffset.raise.Given as goal

abbrev pub invariant-loop-self : goal.invariant-loop-self
invariant-loop-self l = record {
  same : in_order l.self ≡ in_order l.fn.self;
  reach : HasReach l.self;
  low : All (λ (p : Placed). p.offset < l.fn.offset) l.self.low.items;
}

abbrev pub decreases-loop-self : goal.decreases-loop-self
decreases-loop-self l = length l.self.high.items
