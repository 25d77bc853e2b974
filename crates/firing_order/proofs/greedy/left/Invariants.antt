use Rattle.std.proofs.Common.{ℕ, ◌≡◌, ◌<◌, ◌-◌, length, slice_index}
use Rattle.firing_order.proofs.greedy.left.Given as goal

abbrev pub invariant-loop-a : goal.invariant-loop-a
invariant-loop-a l = record {
  one_each : length l.left.items ≡ l.a;
  each : (b : ℕ) → b < l.a → slice_index l.left.items b ≡ slice_index l.counts b - slice_index l.fired b;
}
