-- The kernels that count tokens.
use Rattle.std.specs.Prelude.{ℕ, ℤ, pos, Bool, ◌==◌, ◌&&◌, ◌+◌, ◌-◌, ◌/◌, ◌%◌, nat_le, int_lt, int_le, ◌+ℤ◌, ◌*ℤ◌, List, [], ◌∷◌, codes, length, map, count_by, find, Option, Some, None}
use Rattle.kernel_gate.specs.Codes.{shape}
use Rattle.kernel_gate.specs.Value.{Answer, Gives, Faults, Kernel, port}
use Rattle.kernel_gate.specs.Signed.{SignatureView}
use Rattle.kernel_gate.specs.Tokens.{places, token}
use Rattle.kernel_gate.specs.Kernels.{if_shape, if_value, shaped, size, plain_counts}
use Rattle.kernel_gate.specs.Limits.{most_median_tokens}

-- how many tokens are smaller, and how many are larger
abbrev pub smaller : List ℤ → ℤ → ℕ
smaller xs t = count_by (λ u. int_lt u t) xs

abbrev pub larger : List ℤ → ℤ → ℕ
larger xs t = count_by (λ u. int_lt t u) xs

-- at most half of the other tokens are smaller, and at most half are larger
abbrev pub in_the_middle : List ℤ → ℤ → Bool
in_the_middle xs t = nat_le (smaller xs t) ((length xs - 1) / 2) && nat_le (larger xs t) ((length xs - 1) / 2)

-- one output of one token where there is one
abbrev pub found_token : Option ℤ → Answer
found_token (Some t) = Gives ((t ∷ []) ∷ []) []
found_token None = Faults shape

-- median: the token in the middle by size
abbrev pub median_signature : SignatureView
median_signature = record { name = codes "median"; counts = plain_counts 0 1 1 }

unfoldable pub median_answer : Kernel
median_answer args inputs lens sets =
    let r = length (port inputs 0) in
    if_shape ((size lens 0 == 1) && (r % 2 == 1) && nat_le r most_median_tokens)
    (found_token (find (in_the_middle (port inputs 0)) (port inputs 0)))

-- a token lies in bin b of the bins from low on that are so wide
abbrev pub in_bin : ℤ → ℤ → ℕ → ℤ → Bool
in_bin low width b t =
    int_le (low +ℤ (pos b *ℤ width)) t && int_lt t (low +ℤ (pos (b + 1) *ℤ width))

-- histogram low width: the number of tokens in each bin
abbrev pub histogram_signature : SignatureView
histogram_signature = record { name = codes "histogram"; counts = plain_counts 2 1 1 }

unfoldable pub histogram_answer : Kernel
histogram_answer args inputs lens sets =
    if_shape (nat_le 1 (size lens 0))
    (if_value (int_le (pos 1) (token args 1))
    (Gives (map (λ b. pos (count_by (in_bin (token args 0) (token args 1) b) (port inputs 0))) (places (size lens 0)) ∷ []) []))

-- count_above t: the number of tokens greater than t
abbrev pub count_above_signature : SignatureView
count_above_signature = record { name = codes "count_above"; counts = plain_counts 1 1 1 }

unfoldable pub count_above_answer : Kernel
count_above_answer args inputs lens sets =
    shaped (size lens 0) 1 (Gives ((pos (larger (port inputs 0) (token args 0)) ∷ []) ∷ []) [])
