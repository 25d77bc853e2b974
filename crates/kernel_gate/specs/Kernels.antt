-- Words for the rows of the table of kernels, and the row `pass`.
use Rattle.std.specs.Prelude.{ℕ, ℤ, Bool, false, ◌==◌, ◌&&◌, List, [], ◌∷◌, codes, length, zip, slice_index_or, if◌then◌else◌, Result, Ok, Err}
use Rattle.kernel_gate.specs.Codes.{shape, value}
use Rattle.kernel_gate.specs.Value.{Answer, Gives, Faults, Kernel, port}
use Rattle.kernel_gate.specs.Signed.{Counts, SignatureView}
use Rattle.kernel_gate.specs.declared.fault.KernelFault.{KernelFault}

-- the answer where the lengths fit, else Shape
abbrev pub if_shape : Bool → Answer → Answer
if_shape fits a = if fits then a else Faults shape

-- the answer where the arguments and tokens are such as the kernel takes, else Value
abbrev pub if_value : Bool → Answer → Answer
if_value taken a = if taken then a else Faults value

-- the answer where two lengths are equal, else Shape
abbrev pub shaped : ℕ → ℕ → Answer → Answer
shaped r s a = if r == s then a else Faults shape

-- one output, or the fault
abbrev pub one_output : Result (List ℤ) KernelFault → Answer
one_output (Ok o) = Gives (o ∷ []) []
one_output (Err f) = Faults f.code

-- one output of one token, or the fault
abbrev pub one_token : Result ℤ KernelFault → Answer
one_token (Ok t) = Gives ((t ∷ []) ∷ []) []
one_token (Err f) = Faults f.code

-- the length of an output
abbrev pub size : List ℕ → ℕ → ℕ
size lens n = slice_index_or lens n 0

-- the answer where both inputs and the output are of one length, else Shape
abbrev pub pairs_shaped : List (List ℤ) → List ℕ → Answer → Answer
pairs_shaped inputs lens a =
    if_shape ((length (port inputs 0) == size lens 0) && (length (port inputs 1) == size lens 0)) a

-- the tokens of the two inputs, place by place
abbrev pub pairs : List (List ℤ) → List (ℤ × ℤ)
pairs inputs = zip (port inputs 0) (port inputs 1)

-- a kernel of so many arguments, inputs and outputs, which sets nothing
abbrev pub plain_counts : ℕ → ℕ → ℕ → Counts
plain_counts args ins outs = record { config = false; args_min = args; args_max = args; ins = ins; outs = outs; sets_min = 0; sets_max = 0 }

-- pass: the output is the input
abbrev pub pass_signature : SignatureView
pass_signature = record { name = codes "pass"; counts = plain_counts 0 1 1 }

unfoldable pub pass_answer : Kernel
pass_answer args inputs lens sets =
    shaped (length (port inputs 0)) (slice_index_or lens 0 0) (Gives (port inputs 0 ∷ []) [])
