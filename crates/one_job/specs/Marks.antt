-- How far the nodes of a job are.
use Rattle.std.specs.Prelude.{ℕ, ℤ, List, [], slice_index_or, Option, Some, None, Result, Ok, Err}
use Rattle.kernel_gate.specs.Value.{Places}
use Rattle.job_flow.specs.Frames.{Values}

-- A node is free, or claimed with a frame whose leases lie at these places, or finished with these outputs, or failed with this
-- code.
pub data Mark : Type 0 where
  Free : Mark
  Claimed : (places : Places) → Mark
  Finished : (outs : List (List ℤ)) → Mark
  Failed : (code : ℕ) → Mark

-- leases of no ports
abbrev pub nowhere : Places
nowhere = record { inputs = []; outputs = []; room = record { inputs = 0; outputs = 0; args = 0 } }

abbrev pub mark_at : List Mark → ℕ → Mark
mark_at marks n = slice_index_or marks n Free

-- what a node is finished with
abbrev pub value_of : Mark → Option (Result (List (List ℤ)) ℕ)
value_of Free = None
value_of (Claimed places) = None
value_of (Finished outs) = Some (Ok outs)
value_of (Failed code) = Some (Err code)

abbrev pub values : List Mark → Values ℤ ℕ
values marks n = value_of (mark_at marks n)

-- a mark without what it tells
pub data Phase : Type 0 where
  IsFree : Phase
  IsClaimed : Phase
  IsFinished : Phase
  IsFailed : Phase

abbrev pub phase_of : Mark → Phase
phase_of Free = IsFree
phase_of (Claimed places) = IsClaimed
phase_of (Finished outs) = IsFinished
phase_of (Failed code) = IsFailed

abbrev pub phase : List Mark → ℕ → Phase
phase marks n = phase_of (mark_at marks n)
