-- The memory of frames.
use Rattle.std.specs.Prelude.{◌≡◌, ◌≤◌, [], vec_capacity}
use Rattle.kernel_gate.specs.declared.frame.Lent.{Lent}
use Rattle.kernel_gate.specs.declared.room.RoomSize.{RoomSize}

-- where there is memory for the second, there is for the first
pub record Suffices (least size : RoomSize) : Type 0 where
  pub inputs : least.inputs ≤ size.inputs
  pub outputs : least.outputs ≤ size.outputs
  pub args : least.args ≤ size.args

-- for how much the lists have memory
abbrev pub size_of : Lent → RoomSize
size_of l = record { inputs = vec_capacity l.inputs; outputs = vec_capacity l.outputs; args = vec_capacity l.args }

-- nothing lies in the lists
pub record IsEmptied (l : Lent) : Type 0 where
  pub args : l.args.items ≡ []
  pub inputs : l.inputs.items ≡ []
  pub outputs : l.outputs.items ≡ []
  pub sets : l.sets.items ≡ []
