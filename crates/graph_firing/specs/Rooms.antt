-- The room of a worker, in which the frames of nodes are made. It lies in a slot, which is empty while a frame is made in it.
use Rattle.std.specs.Prelude.{◌≡◌, ℕ, nat_lt, Bool, true, false, Option, Some, None}
use Rattle.kernel_gate.specs.Rooms.{Suffices}
use Rattle.kernel_gate.specs.Value.{Places}
use Rattle.kernel_gate.specs.declared.room.RoomSize.{RoomSize}
use Rattle.graph_firing.specs.View.{OpenView, compilation_of}

-- the number is that of a node
abbrev pub is_node : OpenView → ℕ → Bool
is_node v i = nat_lt (compilation_of v) i

-- where the frame of a node takes so much memory, the slot has a room for it
abbrev pub HasRoomFor : (need slot : Option RoomSize) → Type 0
HasRoomFor need slot = (least : RoomSize) → need ≡ Some least → (room : RoomSize) × (slot ≡ Some room) × Suffices least room

-- the frame of a node, whose leases lie here, is made in the room that is taken out of the slot; another frame isn't
abbrev pub TakesRoom : Bool → (old : Option RoomSize) → Places → (new : Option RoomSize) → Type 0
TakesRoom true old places new = (old ≡ Some places.room) × (new ≡ None)
TakesRoom false old places new = new ≡ old

-- a room comes back to a slot, and is given up where one lies there
abbrev pub room_after : Option RoomSize → RoomSize → Option RoomSize
room_after None room = Some room
room_after (Some own) room = Some own

-- the frame of a node, whose leases lie here, comes back with its room; another has none
abbrev pub slot_after : Bool → Option RoomSize → Places → Option RoomSize
slot_after true old places = room_after old places.room
slot_after false old places = old
