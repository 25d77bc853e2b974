-- Rooms that suffice.
use Rattle.std.proofs.Common.{◌≡◌, ◌⊎◌, inr, Result, Ok, Err, OnErr, sym, subst, arith}
use Rattle.kernel_gate.specs.Rooms.{Suffices}
use Rattle.kernel_gate.specs.declared.room.RoomSize.{RoomSize}

pub suffices_itself : (size : RoomSize) → Suffices size size
suffices_itself size = record { inputs = omega arith; outputs = omega arith; args = omega arith }

-- a room of just this size
pub suffices_same : (least size : RoomSize) → size ≡ least → Suffices least size
suffices_same least size same = subst (λ (x : RoomSize). Suffices least x) (sym same) (suffices_itself least)

pub on_err_right : {T E : Type 0} (result : Result T E) (A B : Type 0) → OnErr result B → OnErr result (A ⊎ B)
on_err_right (Ok value) A B so = tt
on_err_right (Err error) A B so = inr so
