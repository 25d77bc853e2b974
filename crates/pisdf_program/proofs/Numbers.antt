-- Numbers in decimal digits.
use Rattle.std.proofs.Common.{◌≡◌, ℕ, ◌+◌, ◌-◌, ◌*◌, ◌≤◌, ◌<◌, ◌&&◌, List, [], ◌∷◌, Bool, false, Option, None, Some, length, drop, get_or, sym, ap, ◌∙◌, subst, cond, arith, add-one}
use Rattle.std.proofs.Math.Seq.{drop-cons}
use Rattle.std.specs.Prelude.{nat_le}
use Rattle.std.specs.List.{list_all}
use Rattle.std.proofs.lemmas.Bool.Decides.{nat_tests}
use Rattle.pisdf_program.specs.Number.{is_digit, number_on, number_of, number_within}

-- more digits make no number smaller
pub number_on-le : (n : ℕ) (bs : List ℕ) → n ≤ number_on n bs
number_on-le n [] = omega arith
number_on-le n (b ∷ bs) = omega (arith, number_on-le (n * 10 + (b - 48)) bs)

if_not : (a b c d e : Bool) (x : Option ℕ) → e ≡ false → None ≡ cond (a && b && c && d && e) x None
if_not a b c d e x h = grind (arith, nat_tests)

-- digits that go on to a number over the greatest one spell none within
pub none_over : (digits low high n i b : ℕ) (t : List ℕ) → i < length t → b ≡ get_or t i 0 → number_on n (drop i t) ≡ number_of t
    → high < n * 10 + (b - 48) → None ≡ number_within digits low high t
unfolding number_within
none_over digits low high n i b t lt is goes over =
    let first : drop i t ≡ get_or t i 0 ∷ drop (i + 1) t = rw add-one (drop-cons t i 0 lt) in
    let on : number_on (n * 10 + (get_or t i 0 - 48)) (drop (i + 1) t) ≡ number_of t = sym (ap (number_on n) first) ∙ goes in
    let le : n * 10 + (get_or t i 0 - 48) ≤ number_of t = subst (λ m. n * 10 + (get_or t i 0 - 48) ≤ m) on (number_on-le (n * 10 + (get_or t i 0 - 48)) (drop (i + 1) t)) in
    let big : high < number_of t = omega (arith, ap (λ c. c - 48) is) in
    let no : nat_le (number_of t) high ≡ false = grind (arith, nat_tests) in
    if_not (nat_le 1 (length t)) (nat_le (length t) digits) (list_all is_digit t) (nat_le low (number_of t)) (nat_le (number_of t) high) (Some (number_of t)) no
