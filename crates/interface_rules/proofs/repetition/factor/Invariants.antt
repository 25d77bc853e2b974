use Rattle.std.proofs.Common.{ℕ, ◌≡◌, ◌*◌, ◌<◌, length, slice_index}
use Rattle.interface_rules.proofs.repetition.factor.Given as goal

abbrev pub invariant-loop-actor : goal.invariant-loop-actor
invariant-loop-actor l = record {
  long : length l.counts.items ≡ l.actor;
  products : (a : ℕ) → a < l.actor → slice_index l.counts.items a ≡ slice_index l.factors.items (slice_index l.group.items a) * slice_index l.base a;
}
