-- The number that digits write, read from the left.
use Rattle.std.proofs.Common.{◌≡◌, ◌<◌, ◌≤◌, ◌+◌, ◌*◌, ◌-◌, ◌^◌, ℕ, List, [], ◌∷◌, length, drop, get_or, true, false, ◌&&◌, refl, ap, ◌∙◌, arith, add-one}
use Rattle.std.proofs.Math.Seq.{drop-cons}
use Rattle.std.proofs.lemmas.List.{drop_all}
use Rattle.std.specs.Char.{digit_value, is_ascii_digit}
use Rattle.std.specs.Str.{all_ascii_digits}
use Rattle.std.specs.Str.Parse.{digits_value, digits_value_after}

-- the digits before i write v, and those from i on decide the rest
pub record IsReadTo (ds : List ℕ) (i v : ℕ) : Type 0 where
  pub digits : all_ascii_digits ds ≡ all_ascii_digits (drop i ds)
  pub value : digits_value 10 ds ≡ digits_value_after 10 v (drop i ds)

pub read-start : (ds : List ℕ) → IsReadTo ds 0 0
read-start ds = record { digits = refl; value = refl }

pub one_more : (ds : List ℕ) (i : ℕ) → i < length ds → drop i ds ≡ get_or ds i 0 ∷ drop (i + 1) ds
one_more ds i h = rw (add-one, drop-cons ds i 0) refl

pub digit_is : (c : ℕ) → is_ascii_digit c ≡ true → digit_value c ≡ c - 48
digit_is c h = grind arith

pub read-more : (ds : List ℕ) (i v : ℕ) → IsReadTo ds i v → i < length ds → is_ascii_digit (get_or ds i 0) ≡ true
    → IsReadTo ds (i + 1) (v * 10 + (get_or ds i 0 - 48))
read-more ds i v h lt d = record {
  digits = h.digits ∙ ap all_ascii_digits (one_more ds i lt) ∙ ap (λ b. b && all_ascii_digits (drop (i + 1) ds)) d;
  value = h.value ∙ ap (digits_value_after 10 v) (one_more ds i lt)
      ∙ ap (λ n. digits_value_after 10 (v * 10 + n) (drop (i + 1) ds)) (digit_is (get_or ds i 0) d);
}

pub read-end : (ds : List ℕ) (i v : ℕ) → IsReadTo ds i v → length ds ≤ i → (all_ascii_digits ds ≡ true) × (digits_value 10 ds ≡ v)
read-end ds i v h le =
    let none : drop i ds ≡ [] = drop_all i ds le in
    (h.digits ∙ ap all_ascii_digits none, h.value ∙ ap (digits_value_after 10 v) none)

pub read-no_digit : (ds : List ℕ) (i v : ℕ) → IsReadTo ds i v → i < length ds → is_ascii_digit (get_or ds i 0) ≡ false
    → all_ascii_digits ds ≡ false
read-no_digit ds i v h lt d =
    h.digits ∙ ap all_ascii_digits (one_more ds i lt) ∙ ap (λ b. b && all_ascii_digits (drop (i + 1) ds)) d

-- more digits make no smaller number
grows : (v : ℕ) (ds : List ℕ) → v ≤ digits_value_after 10 v ds
grows v [] = omega arith
grows v (c ∷ cs) = omega (arith, grows (v * 10 + digit_value c) cs)

pub read-large : (ds : List ℕ) (i v : ℕ) → IsReadTo ds i v → i < length ds → 922337203685477580 < v → 2 ^ 63 < digits_value 10 ds
read-large ds i v h lt large =
    let value = h.value ∙ ap (digits_value_after 10 v) (one_more ds i lt) in
    let more = grows (v * 10 + digit_value (get_or ds i 0)) (drop (i + 1) ds) in
    omega (arith, value, more)
