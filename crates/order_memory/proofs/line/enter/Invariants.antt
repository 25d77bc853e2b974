use Rattle.std.proofs.Common.{◌≡◌, ℕ, ◌⊎◌, ◌↔◌, take, slice_index}
use Rattle.std.specs.List.{Contains}
use Rattle.order_memory.proofs.line.enter.Given as goal

abbrev pub invariant-loop-head : goal.invariant-loop-head
invariant-loop-head l = (n : ℕ) → Contains l.open_nodes.keys n ↔ (Contains l.initial.open_nodes.keys n ⊎ (Contains (take l.head-index l.heads) n × (slice_index l.waiting n ≡ 0)))
