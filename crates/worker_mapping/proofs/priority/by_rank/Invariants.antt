use Rattle.std.proofs.Common.{◌≡◌, ℕ, ◌<◌, length, get_or, slice_index}
use Rattle.worker_mapping.proofs.priority.by_rank.Given as goal

-- the nodes so far, in their order
abbrev pub invariant-loop-node : goal.invariant-loop-node
invariant-loop-node l = record {
  long : length l.order.items ≡ l.node;
  each : (n : ℕ) → n < l.node → get_or l.order.items n (0, 0) ≡ (slice_index l.ranks n, n);
}
