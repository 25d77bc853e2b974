-- The kernels that work token by token.
use Rattle.std.specs.Prelude.{ℤ, pos, ◌+ℤ◌, ◌-ℤ◌, ◌*ℤ◌, int_lt, int_le, [], ◌∷◌, codes, length, map, if◌then◌else◌}
use Rattle.std.specs.Int.{int_min, int_max}
use Rattle.kernel_gate.specs.Value.{Gives, Kernel, port}
use Rattle.kernel_gate.specs.Signed.{SignatureView}
use Rattle.kernel_gate.specs.Tokens.{bounded, quotient, each, token}
use Rattle.kernel_gate.specs.Kernels.{if_value, shaped, one_output, size, pairs_shaped, pairs, plain_counts}

-- dup: both outputs are the input
abbrev pub dup_signature : SignatureView
dup_signature = record { name = codes "dup"; counts = plain_counts 0 1 2 }

unfoldable pub dup_answer : Kernel
dup_answer args inputs lens sets =
    shaped (length (port inputs 0)) (size lens 0)
    (shaped (length (port inputs 0)) (size lens 1) (Gives (port inputs 0 ∷ port inputs 0 ∷ []) []))

-- gain k: each token times k
abbrev pub gain_signature : SignatureView
gain_signature = record { name = codes "gain"; counts = plain_counts 1 1 1 }

unfoldable pub gain_answer : Kernel
gain_answer args inputs lens sets =
    shaped (length (port inputs 0)) (size lens 0)
    (one_output (each (λ t. bounded (t *ℤ token args 0)) (port inputs 0)))

-- add: the sums of the tokens at each place
abbrev pub add_signature : SignatureView
add_signature = record { name = codes "add"; counts = plain_counts 0 2 1 }

unfoldable pub add_answer : Kernel
add_answer args inputs lens sets =
    pairs_shaped inputs lens (one_output (each (λ p. bounded (p.0 +ℤ p.1)) (pairs inputs)))

-- sub: the tokens of the first less those of the second
abbrev pub sub_signature : SignatureView
sub_signature = record { name = codes "sub"; counts = plain_counts 0 2 1 }

unfoldable pub sub_answer : Kernel
sub_answer args inputs lens sets =
    pairs_shaped inputs lens (one_output (each (λ p. bounded (p.0 -ℤ p.1)) (pairs inputs)))

-- mul: the products of the tokens at each place
abbrev pub mul_signature : SignatureView
mul_signature = record { name = codes "mul"; counts = plain_counts 0 2 1 }

unfoldable pub mul_answer : Kernel
mul_answer args inputs lens sets =
    pairs_shaped inputs lens (one_output (each (λ p. bounded (p.0 *ℤ p.1)) (pairs inputs)))

-- div: the quotients of the tokens at each place, rounded towards zero
abbrev pub div_signature : SignatureView
div_signature = record { name = codes "div"; counts = plain_counts 0 2 1 }

unfoldable pub div_answer : Kernel
div_answer args inputs lens sets =
    pairs_shaped inputs lens (one_output (each (λ p. quotient p.0 p.1) (pairs inputs)))

-- min: the smaller token at each place
abbrev pub min_signature : SignatureView
min_signature = record { name = codes "min"; counts = plain_counts 0 2 1 }

unfoldable pub min_answer : Kernel
min_answer args inputs lens sets =
    pairs_shaped inputs lens (Gives (map (λ p. int_min p.0 p.1) (pairs inputs) ∷ []) [])

-- max: the larger token at each place
abbrev pub max_signature : SignatureView
max_signature = record { name = codes "max"; counts = plain_counts 0 2 1 }

unfoldable pub max_answer : Kernel
max_answer args inputs lens sets =
    pairs_shaped inputs lens (Gives (map (λ p. int_max p.0 p.1) (pairs inputs) ∷ []) [])

-- a token held between two bounds
abbrev pub clamped : ℤ → ℤ → ℤ → ℤ
clamped low high t = if int_lt t low then low else (if int_lt high t then high else t)

-- clamp low high: each token held between the bounds
abbrev pub clamp_signature : SignatureView
clamp_signature = record { name = codes "clamp"; counts = plain_counts 2 1 1 }

unfoldable pub clamp_answer : Kernel
clamp_answer args inputs lens sets =
    shaped (length (port inputs 0)) (size lens 0)
    (if_value (int_le (token args 0) (token args 1))
    (Gives (map (clamped (token args 0) (token args 1)) (port inputs 0) ∷ []) []))

-- threshold t: 1 where the token is t or more, else 0
abbrev pub threshold_signature : SignatureView
threshold_signature = record { name = codes "threshold"; counts = plain_counts 1 1 1 }

unfoldable pub threshold_answer : Kernel
threshold_answer args inputs lens sets =
    shaped (length (port inputs 0)) (size lens 0)
    (Gives (map (λ u. if int_le (token args 0) u then pos 1 else pos 0) (port inputs 0) ∷ []) [])
