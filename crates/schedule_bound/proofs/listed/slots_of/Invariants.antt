use Rattle.std.proofs.Common.{◌≡◌, ◌<◌, ℕ, length}
use Rattle.schedule_bound.specs.Slots.{slot_of}
use Rattle.schedule_bound.specs.Listed.{entry_at, slot_in}
use Rattle.schedule_bound.proofs.listed.slots_of.Given as goal

abbrev pub invariant-loop-entry : goal.invariant-loop-entry
invariant-loop-entry l = record {
  long : length l.slots.items ≡ l.nodes;
  each : (k : ℕ) → k < l.entry-index → slot_of l.slots.items (entry_at l.entries k).node ≡ slot_in (entry_at l.entries k);
}
