-- The kernels that repeat, drop, place anew or make tokens.
use Rattle.std.specs.Prelude.{ℕ, ℤ, pos, ◌==◌, ◌&&◌, ◌+◌, ◌*◌, ◌/◌, ◌%◌, nat_le, int_le, ◌+ℤ◌, ◌*ℤ◌, unsigned_abs, List, [], ◌∷◌, codes, length, map, replicate}
use Rattle.std.specs.List.{flat_map}
use Rattle.kernel_gate.specs.Value.{Gives, Kernel, port}
use Rattle.kernel_gate.specs.Signed.{SignatureView}
use Rattle.kernel_gate.specs.Tokens.{bounded, each, places, token}
use Rattle.kernel_gate.specs.Kernels.{if_shape, if_value, shaped, one_output, size, plain_counts}

-- up: each token several times in a row
abbrev pub up_signature : SignatureView
up_signature = record { name = codes "up"; counts = plain_counts 0 1 1 }

unfoldable pub up_answer : Kernel
up_answer args inputs lens sets =
    let r = length (port inputs 0) in
    let s = size lens 0 in
    if_shape (nat_le 1 r && nat_le r s && (s % r == 0))
    (Gives (flat_map (λ t. replicate (s / r) t) (port inputs 0) ∷ []) [])

-- down: the first token of each run of equal length
abbrev pub down_signature : SignatureView
down_signature = record { name = codes "down"; counts = plain_counts 0 1 1 }

unfoldable pub down_answer : Kernel
down_answer args inputs lens sets =
    let r = length (port inputs 0) in
    let s = size lens 0 in
    if_shape (nat_le 1 s && nat_le s r && (r % s == 0))
    (Gives (map (λ n. token (port inputs 0) (n * (r / s))) (places s) ∷ []) [])

-- ramp start step: from the start on, each a step further
abbrev pub ramp_signature : SignatureView
ramp_signature = record { name = codes "ramp"; counts = plain_counts 2 0 1 }

unfoldable pub ramp_answer : Kernel
ramp_answer args inputs lens sets =
    one_output (each (λ n. bounded (token args 0 +ℤ (pos n *ℤ token args 1))) (places (size lens 0)))

-- a column of a matrix of so many rows and columns, which stands row after row
abbrev pub column : List ℤ → ℕ → ℕ → ℕ → List ℤ
column xs rows cols c = map (λ a. token xs (a * cols + c)) (places rows)

-- transpose rows cols: a matrix that stands row after row, column after column
abbrev pub transpose_signature : SignatureView
transpose_signature = record { name = codes "transpose"; counts = plain_counts 2 1 1 }

unfoldable pub transpose_answer : Kernel
transpose_answer args inputs lens sets =
    let rows = unsigned_abs (token args 0) in
    let cols = unsigned_abs (token args 1) in
    shaped (length (port inputs 0)) (size lens 0)
    (if_value (int_le (pos 1) (token args 0) && int_le (pos 1) (token args 1) && (rows * cols == length (port inputs 0)))
    (Gives (flat_map (column (port inputs 0) rows cols) (places cols) ∷ []) []))
