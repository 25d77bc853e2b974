-- Kernels that the actors of a graph fire.
use Rattle.std.specs.Prelude.{◌≡◌, ℕ, ◌≤◌, List, slice_get, Some}
use Rattle.kernel_gate.specs.Signed.{Counts}
use Rattle.kernel_gate.specs.Value.{Answer, Gives, Faults, lengths}
use Rattle.pisdf_meaning.specs.declared.kernels.KernelEnd.{KernelEnd}
use Rattle.pisdf_meaning.specs.declared.kernels.KernelEnd.TheVariants.{Gave, Faulted}

-- the kernel is a place of these signatures, and so many arguments, inputs, outputs and sets fit the one there
pub record FitsKernel (signatures : List Counts) (kernel arguments inputs outputs values : ℕ) : Type 0 where
  pub counts : Counts
  pub place : slice_get signatures kernel ≡ Some counts
  pub args : (counts.args_min ≤ arguments) × (arguments ≤ counts.args_max)
  pub ins : inputs ≡ counts.ins
  pub outs : outputs ≡ counts.outs
  pub sets : (counts.sets_min ≤ values) × (values ≤ counts.sets_max)

-- what a kernel gave
abbrev pub fired_answer : KernelEnd → Answer
fired_answer (Gave outs sets) = Gives outs sets
fired_answer (Faulted code) = Faults code

-- outputs of these lengths, where it gave some
abbrev pub GivesLengths : List ℕ → KernelEnd → Type 0
GivesLengths lens (Gave outs sets) = lengths outs ≡ lens
GivesLengths lens (Faulted code) = Unit {0}
