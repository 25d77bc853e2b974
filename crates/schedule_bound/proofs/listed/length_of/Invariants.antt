use Rattle.std.proofs.Common.{◌≡◌, take, map}
use Rattle.worker_mapping.specs.Graph.{greatest}
use Rattle.schedule_bound.specs.declared.slots.Slot.{Slot}
use Rattle.schedule_bound.proofs.listed.length_of.Given as goal

abbrev pub invariant-loop-slot : goal.invariant-loop-slot
invariant-loop-slot l = l.last ≡ greatest (map (λ (s : Slot). s.end) (take l.slot-index l.slots))
