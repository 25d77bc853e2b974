-- Signatures, and frames that fit them.
use Rattle.std.specs.Prelude.{◌≡◌, ℕ, ◌≤◌, Bool, List, map, length, slice_get, Some}
use Rattle.kernel_gate.specs.Value.{FrameView}
use Rattle.kernel_gate.specs.declared.signature.Signature.{Signature}

-- what a kernel takes and gives: the bounds of its arguments and sets, and its ports
pub record Counts : Type 0 where
  pub config : Bool
  pub args_min : ℕ
  pub args_max : ℕ
  pub ins : ℕ
  pub outs : ℕ
  pub sets_min : ℕ
  pub sets_max : ℕ

-- a signature as plain data
pub record SignatureView : Type 0 where
  pub name : List ℕ
  pub counts : Counts

abbrev pub counts_of : Signature → Counts
counts_of s = record { config = s.config; args_min = s.args_min; args_max = s.args_max; ins = s.ins; outs = s.outs; sets_min = s.sets_min; sets_max = s.sets_max }

abbrev pub signature_view : Signature → SignatureView
signature_view s = record { name = s.name.now; counts = counts_of s }

-- the signatures without their names
abbrev pub unnamed : List SignatureView → List Counts
unnamed signatures = map (λ (s : SignatureView). s.counts) signatures

-- a frame's numbers of arguments, ports and sets fit
pub record Fits (c : Counts) (f : FrameView) : Type 0 where
  pub args : (c.args_min ≤ length f.args) × (length f.args ≤ c.args_max)
  pub ins : length f.inputs ≡ c.ins
  pub outs : length f.outputs ≡ c.outs
  pub sets : (c.sets_min ≤ length f.sets) × (length f.sets ≤ c.sets_max)

-- the frame's kind is a place of the signatures, and the frame fits the one there
abbrev pub IsFrameOf : List Counts → FrameView → Type 0
IsFrameOf signatures f = (c : Counts) × (slice_get signatures f.kind ≡ Some c) × Fits c f
