-- Laws of the kernels.
use Rattle.std.specs.Prelude.{◌≡◌, ℕ, ◌≤◌, ℤ, List, length, slice_get, Some}
use Rattle.kernel_gate.specs.Value.{Answer, Gives, Faults, Kernel, lengths}
use Rattle.kernel_gate.specs.Signed.{Counts}
use Rattle.kernel_gate.specs.Table.{the_value}

-- outputs of these lengths and so many values of parameters, unless there is a code
abbrev pub HasLengths : List ℕ → ℕ → Answer → Type 0
HasLengths lens sets (Gives outs values) = (lengths outs ≡ lens) × (length values ≡ sets)
HasLengths lens sets (Faults code) = Unit {0}

-- for as many outputs and parameters as fit, the kernel gives outputs of the lengths that were asked for, and as many values
abbrev pub GivesLengths : Kernel → Counts → Type 0
GivesLengths kernel counts =
    (args : List ℤ) (inputs : List (List ℤ)) (lens : List ℕ) (sets : ℕ) →
    length lens ≡ counts.outs → counts.sets_min ≤ sets → sets ≤ counts.sets_max → HasLengths lens sets (kernel args inputs lens sets)

-- each kernel of these signatures gives as much as it was asked for
abbrev pub GiveLengths : List Counts → Type 0
GiveLengths signatures = (kind : ℕ) (counts : Counts) → slice_get signatures kind ≡ Some counts → GivesLengths (the_value kind) counts
