-- What a field with a minus, one without, and an empty one are as tokens.
use Rattle.std.proofs.Common.{◌≡◌, ◌≢◌, ◌≤◌, ◌<◌, ◌^◌, ◌==◌, ◌&&◌, ◌∷◌, [], ℕ, zero, suc, ℤ, pos, neg_ℤ, List, length, Bool, true, false, cond, Option, Some, None, IsTrue, refl, ap, arith}
use Rattle.std.proofs.lemmas.Bool.{and_from, and_parts, ne_eqb}
use Rattle.std.proofs.lemmas.Int.{ints}
use Rattle.std.specs.Option.{SomeIff}
use Rattle.std.specs.Str.Parse.{digits_value}
use Rattle.param_expr.specs.Eval.{in_i64}
use Rattle.token_text.specs.Token.{are_digits, token_of}

some_if : (b : Bool) (z : ℤ) (r : Option ℤ) (P : Type 0) → (P → b ≡ true) → (b ≡ true → P) → SomeIff r P z → r ≡ cond b (Some z) None
some_if true z (Some x) P to from h = ap Some h.1
some_if true z None P to from h = absurd (h (from refl))
some_if false z (Some x) P to from h = let no : false ≡ true = to h.0 in absurd cc
some_if false z None P to from h = refl

in_negative : (n : ℕ) → n ≤ 2 ^ 63 → in_i64 (neg_ℤ (pos n)) ≡ true
in_negative zero h = refl
in_negative (suc m) h = grind (arith, ints)

from_negative : (n : ℕ) → in_i64 (neg_ℤ (pos n)) ≡ true → n ≤ 2 ^ 63
from_negative zero e = omega arith
from_negative (suc m) e = grind (arith, ints)

in_positive : (n : ℕ) → n < 2 ^ 63 → in_i64 (pos n) ≡ true
in_positive n h = grind (arith, ints)

from_positive : (n : ℕ) → in_i64 (pos n) ≡ true → n < 2 ^ 63
from_positive n e = grind (arith, ints)

pub token_of-minus : (field : List ℕ) (b : ℕ) (ds : List ℕ) (r : Option ℤ) → field ≡ b ∷ ds → b ≡ 45
    → SomeIff r (IsTrue (are_digits ds) × digits_value 10 ds ≤ 2 ^ 63) (neg_ℤ (pos (digits_value 10 ds))) → r ≡ token_of field
unfolding token_of
token_of-minus field b ds r e minus h =
    rw (e, minus) (some_if (are_digits ds && in_i64 (neg_ℤ (pos (digits_value 10 ds)))) (neg_ℤ (pos (digits_value 10 ds))) r (IsTrue (are_digits ds) × digits_value 10 ds ≤ 2 ^ 63)
    (λ p. and_from (are_digits ds) (in_i64 (neg_ℤ (pos (digits_value 10 ds)))) p.0 (in_negative (digits_value 10 ds) p.1))
    (λ e. let q = and_parts (are_digits ds) (in_i64 (neg_ℤ (pos (digits_value 10 ds)))) e in (q.0, from_negative (digits_value 10 ds) q.1)) h)

plain : (b : ℕ) (bs : List ℕ) (r : Option ℤ) → b ≢ 45
    → SomeIff r (IsTrue (are_digits (b ∷ bs)) × digits_value 10 (b ∷ bs) < 2 ^ 63) (pos (digits_value 10 (b ∷ bs))) → r ≡ token_of (b ∷ bs)
unfolding token_of
plain b bs r differs h =
    let none : (b == 45) ≡ false = ne_eqb b 45 differs in
    rw none (some_if (are_digits (b ∷ bs) && in_i64 (pos (digits_value 10 (b ∷ bs)))) (pos (digits_value 10 (b ∷ bs))) r (IsTrue (are_digits (b ∷ bs)) × digits_value 10 (b ∷ bs) < 2 ^ 63)
    (λ p. and_from (are_digits (b ∷ bs)) (in_i64 (pos (digits_value 10 (b ∷ bs)))) p.0 (in_positive (digits_value 10 (b ∷ bs)) p.1))
    (λ e. let q = and_parts (are_digits (b ∷ bs)) (in_i64 (pos (digits_value 10 (b ∷ bs)))) e in (q.0, from_positive (digits_value 10 (b ∷ bs)) q.1)) h)

pub token_of-plain : (field : List ℕ) (b : ℕ) (bs : List ℕ) (r : Option ℤ) → field ≡ b ∷ bs → b ≢ 45
    → SomeIff r (IsTrue (are_digits field) × digits_value 10 field < 2 ^ 63) (pos (digits_value 10 field)) → r ≡ token_of field
token_of-plain field b bs r e differs h = rw e (plain b bs r differs (rw e at h))

pub token_of-empty : (field : List ℕ) → length field ≡ 0 → token_of field ≡ None
unfolding token_of
token_of-empty [] e = refl
token_of-empty (b ∷ bs) e = absurd (omega (arith, e))
