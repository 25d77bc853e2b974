-- The first places of names, noted from the last name to the first.
use Rattle.std.proofs.Common.{◌≡◌, ℕ, suc, ◌+◌, ◌<◌, List, [], ◌∷◌, length, drop, get_or, Bool, true, false, cond, not, Option, Some, None, refl, sym, ap, ◌∙◌, arith}
use Rattle.std.specs.Prelude.{nat_lt}
use Rattle.std.specs.List.{position_from, position_or_len}
use Rattle.std.specs.Str.{bytes_eq}
use Rattle.std.specs.Cmp.Lexicographic.{nat_list_eq_equiv}
use Rattle.std.proofs.lemmas.Bool.Decides.{nat_tests}
use Rattle.std.proofs.lemmas.List.{drop_more}
use Rattle.param_expr.specs.Bind.{place_of}

-- from this place on, the first name that is the text
abbrev pub first_from : ℕ → List (List ℕ) → List ℕ → Option ℕ
first_from i names text = position_from (λ name. bytes_eq name text) i (drop i names)

-- one name more in front
pub one_before : (names : List (List ℕ)) (i : ℕ) (name : List ℕ) (found : Option ℕ) (text : List ℕ) → i < length names → name ≡ get_or names i name → found ≡ first_from (i + 1) names text → cond (bytes_eq name text) (Some i) found ≡ first_from i names text
one_before names i name found text inside is rest =
    ap (λ o. cond (bytes_eq name text) (Some i) o) rest
    ∙ ap (λ x. cond (bytes_eq x text) (Some i) (first_from (i + 1) names text)) is
    ∙ sym (ap (position_from (λ x. bytes_eq x text) i) (drop_more names i name inside))

-- ---- all of them

same_name : (x y : List ℕ) → bytes_eq x y ≡ bytes_eq y x
same_name x y = nat_list_eq_equiv.symm x y

from_is : (i : ℕ) (names : List (List ℕ)) (text : List ℕ) → position_from (λ name. bytes_eq name text) i names ≡ cond (nat_lt (position_or_len (bytes_eq text) names) (length names)) (Some (i + position_or_len (bytes_eq text) names)) None
from_is i [] text = refl
from_is i (x ∷ names) text = ap (λ b. cond b (Some i) (position_from (λ name. bytes_eq name text) (i + 1) names)) (same_name x text) ∙ by (bytes_eq text x) (from_is (i + 1) names text)
  where
    by : (b : Bool) → position_from (λ name. bytes_eq name text) (i + 1) names ≡ cond (nat_lt (position_or_len (bytes_eq text) names) (length names)) (Some (i + 1 + position_or_len (bytes_eq text) names)) None
        → cond b (Some i) (position_from (λ name. bytes_eq name text) (i + 1) names)
        ≡ cond (nat_lt (cond (not b) (1 + position_or_len (bytes_eq text) names) 0) (suc (length names))) (Some (i + cond (not b) (1 + position_or_len (bytes_eq text) names) 0)) None
    by true rest = grind (arith, nat_tests)
    by false rest = grind (arith, nat_tests, rest)

-- the first place of all is that of the name
pub all_noted : (names : List (List ℕ)) (text : List ℕ) → first_from 0 names text ≡ place_of names text
all_noted names text = grind (arith, from_is 0 names text)
