-- Where and when nodes run.
use Rattle.std.specs.Prelude.{ℕ, ◌<◌, ◌≤◌, List, map, slice_index_or}
use Rattle.worker_mapping.specs.Graph.{greatest}
use Rattle.schedule_bound.specs.declared.slots.Slot.{Slot}

abbrev pub no_slot : Slot
no_slot = record { worker = 0; start = 0; end = 0 }

-- the slot of a node
abbrev pub slot_of : List Slot → ℕ → Slot
slot_of slots n = slice_index_or slots n no_slot

-- it runs at this time
pub record IsRunning (slot : Slot) (time : ℕ) : Type 0 where
  pub begun : slot.start ≤ time
  pub not_over : time < slot.end

-- the greatest end, 0 with no node
abbrev pub length_of : List Slot → ℕ
length_of slots = greatest (map (λ s. s.end) slots)
