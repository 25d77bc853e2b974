-- Frames and what kernels give, as plain data.
use Rattle.std.specs.Prelude.{◌≡◌, ℕ, ℤ, List, [], map, slice_set, slice_index_or, length, Result, Ok, Err}
use Rattle.split_block.specs.View.{LeasePlace, refit}
use Rattle.kernel_gate.specs.declared.fault.KernelFault.{KernelFault}
use Rattle.kernel_gate.specs.declared.room.RoomSize.{RoomSize}

-- what a firing gives: its outputs and its sets, or a code
pub data Answer : Type 0 where
  Gives : (outs : List (List ℤ)) (sets : List ℤ) → Answer
  Faults : (code : ℕ) → Answer

-- what a kernel gives for arguments, inputs, output lengths and a number of sets
abbrev pub Kernel : Type 0
Kernel = List ℤ → List (List ℤ) → List ℕ → ℕ → Answer

-- where the cells of a frame's input and output ports lie, and for how many ports and arguments it has memory
pub record Places : Type 0 where
  pub inputs : List LeasePlace
  pub outputs : List LeasePlace
  pub room : RoomSize

-- a frame as plain data
pub record FrameView : Type 0 where
  pub kind : ℕ
  pub args : List ℤ
  pub inputs : List (List ℤ)
  pub outputs : List (List ℤ)
  pub sets : List ℤ
  pub places : Places

abbrev pub lengths : List (List ℤ) → List ℕ
lengths xs = map (λ (x : List ℤ). length x) xs

-- the list at a port
abbrev pub port : List (List ℤ) → ℕ → List ℤ
port lists n = slice_index_or lists n []

-- what a kernel gives for what stands in the frame
abbrev pub answer_of : Kernel → FrameView → Answer
answer_of k f = k f.args f.inputs (lengths f.outputs) (length f.sets)

-- what a fired frame and the result of its firing tell: the outputs and the sets that it holds, or the code
abbrev pub told_by : FrameView → Result (Unit {0}) KernelFault → Answer
told_by f (Ok done) = Gives f.outputs f.sets
told_by f (Err fault) = Faults fault.code

-- only tokens of outputs and values of sets may change
pub record SameFrame (old new : FrameView) : Type 0 where
  pub kind : new.kind ≡ old.kind
  pub args : new.args ≡ old.args
  pub inputs : new.inputs ≡ old.inputs
  pub outputs : lengths new.outputs ≡ lengths old.outputs
  pub sets : length new.sets ≡ length old.sets
  pub places : new.places ≡ old.places

-- the frame with tokens written into an output
abbrev pub with_output : FrameView → ℕ → List ℤ → FrameView
with_output f n w = record f { outputs = slice_set f.outputs n (refit (port f.outputs n) w) }
