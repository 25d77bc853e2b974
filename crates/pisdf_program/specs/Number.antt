-- Numbers in decimal digits.
use Rattle.std.specs.Prelude.{ℕ, ◌+◌, ◌-◌, ◌*◌, ◌&&◌, nat_le, Bool, List, [], ◌∷◌, length, Option, Some, None, if◌then◌else◌}
use Rattle.std.specs.List.{list_all}

-- 0 to 9
abbrev pub is_digit : ℕ → Bool
is_digit b = nat_le 48 b && nat_le b 57

-- the number that n goes on to by more digits
abbrev pub number_on : ℕ → List ℕ → ℕ
number_on n [] = n
number_on n (b ∷ bs) = number_on (n * 10 + (b - 48)) bs

-- the number that digits spell
abbrev pub number_of : List ℕ → ℕ
number_of text = number_on 0 text

-- the number that a text of 1 to so many digits spells, where it lies from low to high
unfoldable pub number_within : ℕ → ℕ → ℕ → List ℕ → Option ℕ
number_within digits low high text =
    if nat_le 1 (length text) && nat_le (length text) digits && list_all is_digit text && nat_le low (number_of text) && nat_le (number_of text) high
    then Some (number_of text)
    else None
