-- Copies that are made under the lock.
use Rattle.std.specs.Prelude.{ℕ, ℤ, ◌≤◌, List, length}
use Rattle.std.specs.List.{sum_by}
use Rattle.kernel_gate.specs.Value.{FrameView}

-- the most inputs and the most outputs that such a copy has, and the most tokens that it writes
abbrev pub most_ports : ℕ
most_ports = 64

abbrev pub most_tokens : ℕ
most_tokens = 64

-- a frame with few ports, and few tokens in all of its outputs
pub record IsSmallCopy (f : FrameView) : Type 0 where
  pub ins : length f.inputs ≤ most_ports
  pub outs : length f.outputs ≤ most_ports
  pub tokens : sum_by (λ (output : List ℤ). length output) f.outputs ≤ most_tokens
