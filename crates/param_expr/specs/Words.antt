-- The bytes of names and numbers.
use Rattle.std.specs.Prelude.{ℕ, Bool, false, ◌&&◌, ◌||◌, ◌==◌, nat_le, List, [], ◌∷◌, length, IsTrue, codes, not}
use Rattle.std.specs.List.{list_all}
use Rattle.std.specs.Str.{bytes_eq}
use Rattle.param_expr.specs.Limits.{most_name_bytes}

abbrev pub is_digit : ℕ → Bool
is_digit b = nat_le 48 b && nat_le b 57

-- an ASCII letter or `_`
abbrev pub is_letter : ℕ → Bool
is_letter b = (nat_le 97 b && nat_le b 122) || (nat_le 65 b && nat_le b 90) || b == 95

-- an ASCII letter, a digit or `_`
abbrev pub is_word_byte : ℕ → Bool
is_word_byte b = is_letter b || is_digit b

abbrev pub starts_with_letter : List ℕ → Bool
starts_with_letter [] = false
starts_with_letter (b ∷ rest) = is_letter b

-- `min` and `max`
abbrev pub is_reserved : List ℕ → Bool
is_reserved bytes = bytes_eq bytes (codes "min") || bytes_eq bytes (codes "max")

-- A letter or `_`, then letters, digits and `_`, 1 to 64 bytes, and not `min` and not `max`.
abbrev pub is_name : List ℕ → Bool
is_name bytes = starts_with_letter bytes && list_all is_word_byte bytes && nat_le (length bytes) most_name_bytes && not (is_reserved bytes)

abbrev pub IsName : List ℕ → Type 0
IsName bytes = IsTrue (is_name bytes)
