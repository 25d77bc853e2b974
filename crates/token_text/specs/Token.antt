-- A token as the token file writes it: an optional minus and one or more decimal digits, with a value in i64.
use Rattle.std.specs.Prelude.{ℕ, ◌==◌, ◌&&◌, if◌then◌else◌, not, ℤ, pos, neg_ℤ, Bool, false, List, [], ◌∷◌, length, Option, Some, None}
use Rattle.std.specs.Str.{all_ascii_digits}
use Rattle.std.specs.Str.Parse.{digits_value}
use Rattle.param_expr.specs.Eval.{in_i64}

abbrev pub has_minus : List ℕ → Bool
has_minus [] = false
has_minus (byte ∷ rest) = byte == 45

-- a field without its minus, if it has one
abbrev pub after_minus : List ℕ → List ℕ
after_minus [] = []
after_minus (byte ∷ rest) = if byte == 45 then rest else byte ∷ rest

abbrev pub are_digits : List ℕ → Bool
are_digits bytes = not (length bytes == 0) && all_ascii_digits bytes

-- the number that a minus and digits write; leading zeros change nothing, and minus zero is zero
abbrev pub number_of : List ℕ → ℤ
number_of field =
    if has_minus field then neg_ℤ (pos (digits_value 10 (after_minus field))) else pos (digits_value 10 (after_minus field))

-- the token that a field is, where it is one
unfoldable pub token_of : List ℕ → Option ℤ
token_of field = if are_digits (after_minus field) && in_i64 (number_of field) then Some (number_of field) else None
