-- The list schedule, as slots by node.
use Rattle.std.specs.Prelude.{◌≡◌, ◌≢◌, ℕ, ◌<◌, List, All, length, slice_index_or}
use Rattle.worker_mapping.specs.Graph.{CostedGraph, IsPriority}
use Rattle.worker_mapping.specs.Schedule.{IsSchedule}
use Rattle.worker_mapping.specs.declared.entry.Entry.{Entry}
use Rattle.schedule_bound.specs.declared.slots.Slot.{Slot}
use Rattle.schedule_bound.specs.Slots.{slot_of}

abbrev pub slot_in : Entry → Slot
slot_in e = record { worker = e.worker; start = e.start; end = e.end }

-- each node's slot is that of its entry
pub record AreSlots (nodes : ℕ) (entries : List Entry) (slots : List Slot) : Type 0 where
  pub one_each : length slots ≡ nodes
  pub each : All (λ e. slot_of slots e.node ≡ slot_in e) entries

-- the slots of the list schedule by priorities
pub record IsListed (graph : CostedGraph) (workers : ℕ) (slots : List Slot) : Type 0 where
  pub priority : List ℕ
  pub is_priority : IsPriority graph priority
  pub entries : List Entry
  pub schedule : IsSchedule graph workers priority entries
  pub are_slots : AreSlots graph.nodes entries slots

abbrev pub no_entry : Entry
no_entry = record { node = 0; worker = 0; start = 0; end = 0 }

-- the entry at a place of the list
abbrev pub entry_at : List Entry → ℕ → Entry
entry_at entries i = slice_index_or entries i no_entry

-- no node has two entries
abbrev pub StandOnce : List Entry → Type 0
StandOnce entries = (j k : ℕ) → j < k → k < length entries → (entry_at entries j).node ≢ (entry_at entries k).node
