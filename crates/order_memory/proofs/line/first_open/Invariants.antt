use Rattle.std.proofs.Common.{◌≡◌, ℕ, ◌<◌, ◌↔◌, slice_index}
use Rattle.std.specs.List.{Contains}
use Rattle.order_memory.proofs.line.first_open.Given as goal

abbrev pub invariant-loop-node : goal.invariant-loop-node
invariant-loop-node l = (n : ℕ) → Contains l.open_nodes.keys n ↔ ((n < l.node) × (slice_index l.waiting n ≡ 0))
