-- Rooms for the frames of nodes, one for each worker.
use Rattle.std.specs.Prelude.{◌≡◌, ◌⊎◌, ℕ, ◌<◌, max, Bool, List, Option, Some, None, length, slice_index_or, slice_set}
use Rattle.kernel_gate.specs.Rooms.{Suffices}
use Rattle.kernel_gate.specs.Value.{Places}
use Rattle.kernel_gate.specs.declared.room.RoomSize.{RoomSize}
use Rattle.graph_firing.specs.Rooms.{TakesRoom}
use Rattle.firing_board.specs.declared.frame_rooms.FrameRooms.{FrameRooms}

abbrev pub slot_at : List (Option RoomSize) → ℕ → Option RoomSize
slot_at slots w = slice_index_or slots w None

-- in each slot lies a room of this size
abbrev pub AreOf : RoomSize → List (Option RoomSize) → Type 0
AreOf size slots = (w : ℕ) → w < length slots → slot_at slots w ≡ Some size

-- a worker claimed an item: where that is a node, whose leases lie here, the room of the worker left its slot
pub record TakesSlot (node : Bool) (w : ℕ) (places : Places) (old new : FrameRooms) : Type 0 where
  pub size_is : new.size ≡ old.size
  pub slot : Option RoomSize
  pub slots_are : new.slots.items ≡ slice_set old.slots.items w slot
  pub takes : TakesRoom node (slot_at old.slots.items w) places slot

-- there is a size, and it suffices
abbrev pub IsWithin : RoomSize → Option RoomSize → Type 0
IsWithin need size = (s : RoomSize) × (size ≡ Some s) × Suffices need s

-- the least size that suffices wherever one of these two does
abbrev pub larger : (one other : RoomSize) → RoomSize
larger one other = record { inputs = max one.inputs other.inputs; outputs = max one.outputs other.outputs; args = max one.args other.args }

-- the least size for what is needed, and for what was needed before
abbrev pub size_with : (need : RoomSize) (before : Option RoomSize) → RoomSize
size_with need None = need
size_with need (Some size) = larger need size

-- each slot has a room of this very size
pub record AreAllOf (size : RoomSize) (rooms : FrameRooms) : Type 0 where
  pub size_is : rooms.size ≡ Some size
  pub each : AreOf size rooms.slots.items

-- all is as it was, where nothing is needed or the rooms suffice for it; else each slot has a room of just the size that suffices
-- for it and for what was needed before
abbrev pub FitsNeed : Option RoomSize → FrameRooms → FrameRooms → Type 0
FitsNeed None old new = new ≡ old
FitsNeed (Some need) old new = (IsWithin need old.size × (new ≡ old)) ⊎ ((¬ (IsWithin need old.size)) × AreAllOf (size_with need old.size) new)
