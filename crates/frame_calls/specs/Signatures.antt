-- Which kernels take and give so many.
use Rattle.std.specs.Prelude.{◌≡◌, ℕ, ◌≤◌, slice_get, Some}
use Rattle.kernel_gate.specs.Signed.{Counts, unnamed}
use Rattle.kernel_gate.specs.Table.{the_signatures}

-- what a kernel takes and gives allows so many arguments, ports and sets
pub record Allows (c : Counts) (a i o s : ℕ) : Type 0 where
  pub args : (c.args_min ≤ a) × (a ≤ c.args_max)
  pub ins : i ≡ c.ins
  pub outs : o ≡ c.outs
  pub sets : (c.sets_min ≤ s) × (s ≤ c.sets_max)

-- the kernel at a place of the table does
abbrev pub HasKernel : ℕ → ℕ → ℕ → ℕ → ℕ → Type 0
HasKernel kind args ins outs sets = (c : Counts) × (slice_get (unnamed the_signatures) kind ≡ Some c) × Allows c args ins outs sets
