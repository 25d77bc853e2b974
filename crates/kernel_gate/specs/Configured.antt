-- The kernels of configuration actors, which set parameters.
use Rattle.std.specs.Prelude.{ℤ, pos, negsuc, true, ◌-ℤ◌, ◌==◌, ◌&&◌, nat_le, List, [], ◌∷◌, codes, length, fold, slice_get, Option, Some, None, Result, Ok, Err}
use Rattle.std.specs.Int.{int_min, int_max}
use Rattle.kernel_gate.specs.Codes.{value}
use Rattle.kernel_gate.specs.Limits.{most_args, most_sets}
use Rattle.kernel_gate.specs.Value.{Answer, Gives, Faults, Kernel, port}
use Rattle.kernel_gate.specs.Signed.{SignatureView}
use Rattle.kernel_gate.specs.Tokens.{bounded, token}
use Rattle.kernel_gate.specs.Kernels.{if_shape, shaped, size}
use Rattle.kernel_gate.specs.declared.fault.KernelFault.{KernelFault}

-- read_param: the parameters are set to the tokens
abbrev pub read_param_signature : SignatureView
read_param_signature = record {
  name = codes "read_param";
  counts = record { config = true; args_min = 0; args_max = 0; ins = 1; outs = 0; sets_min = 1; sets_max = most_sets };
}

unfoldable pub read_param_answer : Kernel
read_param_answer args inputs lens sets = shaped (length (port inputs 0)) sets (Gives [] (port inputs 0))

-- the element at a whole number's place
abbrev pub at_place : List ℤ → ℤ → Option ℤ
at_place xs (pos n) = slice_get xs n
at_place xs (negsuc n) = None

-- one parameter set to what was found, else Value
abbrev pub found_set : Option ℤ → Answer
found_set (Some v) = Gives [] (v ∷ [])
found_set None = Faults value

-- pick a0 a1 ..: the parameter is set to the argument at the token's place
abbrev pub pick_signature : SignatureView
pick_signature = record {
  name = codes "pick";
  counts = record { config = true; args_min = 1; args_max = most_args; ins = 1; outs = 0; sets_min = 1; sets_max = 1 };
}

unfoldable pub pick_answer : Kernel
pick_answer args inputs lens sets =
    shaped (length (port inputs 0)) 1 (found_set (at_place args (token (port inputs 0) 0)))

abbrev pub greatest : List ℤ → ℤ
greatest xs = fold int_max (token xs 0) xs

abbrev pub least : List ℤ → ℤ
least xs = fold int_min (token xs 0) xs

-- one output, and one parameter set to a value, or its fault
abbrev pub output_and_set : List ℤ → Result ℤ KernelFault → Answer
output_and_set o (Ok v) = Gives (o ∷ []) (v ∷ [])
output_and_set o (Err f) = Faults f.code

-- spread: the output is the input, and the parameter is set to the greatest token less the least
abbrev pub spread_signature : SignatureView
spread_signature = record {
  name = codes "spread";
  counts = record { config = true; args_min = 0; args_max = 0; ins = 1; outs = 1; sets_min = 1; sets_max = 1 };
}

unfoldable pub spread_answer : Kernel
spread_answer args inputs lens sets =
    if_shape (nat_le 1 (length (port inputs 0)) && (size lens 0 == length (port inputs 0)))
    (output_and_set (port inputs 0) (bounded (greatest (port inputs 0) -ℤ least (port inputs 0))))
