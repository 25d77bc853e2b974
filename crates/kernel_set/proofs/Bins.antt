-- The bin of a token, and counts by bin.
use Rattle.std.proofs.Common.{◌≡◌, ℕ, ◌+◌, ◌*◌, ◌/◌, ◌<◌, ◌≤◌, inl, inr, Bool, true, false, ◌&&◌, List, length, take, get_or, set, refl, sym, ap, ◌∙◌, arith, get_or-set_same, get_or-set_other, ◌^◌, w64, length-take}
use Rattle.std.specs.Prelude.{ℤ, FitsSigned, pos, negsuc, nat_abs, neg_ℤ, ◌≤ℤ◌, ◌+ℤ◌, int_le, int_lt, nat_le, nat_lt, ◌==◌, count_by}
use Rattle.std.proofs.lemmas.Int.{ints}
use Rattle.std.proofs.lemmas.Bool.{cases_lt, cases_eq}
use Rattle.std.proofs.lemmas.Bool.Decides.{nat_tests}
use Rattle.std.proofs.lemmas.List.Sums.{count_by-le-length, count_by_more_yes, count_by_more_no}
use Rattle.std.proofs.Math.IntN.{pos-*ℤ-pos}
use Rattle.std.proofs.Math.Nat.{mul-le-mul_right}
use Rattle.kernel_gate.specs.Counted.{in_bin}

from_low : (low : ℤ) (m d : ℕ) → int_le (low +ℤ pos m) (low +ℤ pos d) ≡ nat_le m d
from_low low m d = grind (arith, ints, nat_tests)

to_high : (low : ℤ) (m d : ℕ) → int_lt (low +ℤ pos d) (low +ℤ pos m) ≡ nat_lt d m
to_high low m d = grind (arith, ints, nat_tests)

and_false : (b : Bool) → (b && false) ≡ false
and_false true = refl
and_false false = refl

-- a number lies between the multiples by its quotient and by one more
between_multiples : (b d w : ℕ) → 0 < w → (nat_le (b * w) d && nat_lt d ((b + 1) * w)) ≡ (b == d / w)
between_multiples b d w wide = elim (cases_lt b (d / w)) [ inl less ↦ multiples_below b d w wide less | inr most ↦ elim (cases_lt (d / w) b) [ inl more ↦ multiples_above b d w wide more | inr least ↦ multiples_at b d w wide (omega arith) ] ]
  where
    multiples_below : (b d w : ℕ) → 0 < w → b < d / w → (nat_le (b * w) d && nat_lt d ((b + 1) * w)) ≡ (b == d / w)
    multiples_below b d w wide less =
        let le : b + 1 ≤ d / w = omega arith in
        let past : (b + 1) * w ≤ (d / w) * w = mul-le-mul_right w le in
        let high : nat_lt d ((b + 1) * w) ≡ false = grind (arith, nat_tests) in
        let apart : (b == d / w) ≡ false = grind (arith, nat_tests) in
        rw (high, apart) (and_false (nat_le (b * w) d))

    multiples_above : (b d w : ℕ) → 0 < w → d / w < b → (nat_le (b * w) d && nat_lt d ((b + 1) * w)) ≡ (b == d / w)
    multiples_above b d w wide more =
        let le : d / w + 1 ≤ b = omega arith in
        let past : (d / w + 1) * w ≤ b * w = mul-le-mul_right w le in
        let low : nat_le (b * w) d ≡ false = grind (arith, nat_tests) in
        let apart : (b == d / w) ≡ false = grind (arith, nat_tests) in
        rw (low, apart)

    multiples_at : (b d w : ℕ) → 0 < w → b ≡ d / w → (nat_le (b * w) d && nat_lt d ((b + 1) * w)) ≡ (b == d / w)
    multiples_at b d w wide at =
        let times : b * w ≡ (d / w) * w = ap (λ n. n * w) at in
        let low : nat_le (b * w) d ≡ true = grind (arith, nat_tests) in
        let high : nat_lt d ((b + 1) * w) ≡ true = grind (arith, nat_tests) in
        let same : (b == d / w) ≡ true = grind (arith, nat_tests) in
        rw (low, high, same)

pub bin_is : (low width t : ℤ) (d w b : ℕ) → 0 < w → width ≡ pos w → t ≡ low +ℤ pos d → in_bin low width b t ≡ (b == d / w)
bin_is low width t d w b wide width_is t_is =
    rw (width_is, t_is, pos-*ℤ-pos b w, pos-*ℤ-pos (b + 1) w, from_low low (b * w) d, to_high low ((b + 1) * w) d) (between_multiples b d w wide)

-- one more token that isn't counted, or that is
pub counted_same : (p : ℤ → Bool) (xs : List ℤ) (i : ℕ) (n : ℤ) → i < length xs → p (get_or xs i (pos 0)) ≡ false → n ≡ pos (count_by p (take i xs)) → n ≡ pos (count_by p (take (i + 1) xs))
counted_same p xs i n lt out so_far = so_far ∙ ap pos (sym (count_by_more_no p xs i (pos 0) lt out))

counted_more : (p : ℤ → Bool) (xs : List ℤ) (i : ℕ) (n : ℤ) → i < length xs → p (get_or xs i (pos 0)) ≡ true → n ≡ pos (count_by p (take i xs)) → n +ℤ pos 1 ≡ pos (count_by p (take (i + 1) xs))
counted_more p xs i n lt into so_far = ap (λ (m : ℤ). m +ℤ pos 1) so_far ∙ ap pos (sym (count_by_more_yes p xs i (pos 0) lt into))

-- a token in a bin that is counted, and in one past them
pub counted_at : (p : ℤ → Bool) (xs : List ℤ) (i : ℕ) (o : List ℤ) (bin b : ℕ) → i < length xs → bin < length o → p (get_or xs i (pos 0)) ≡ (b == bin) → get_or o b (pos 0) ≡ pos (count_by p (take i xs))
    → get_or (set o bin (get_or o bin (pos 0) +ℤ pos 1)) b (pos 0) ≡ pos (count_by p (take (i + 1) xs))
counted_at p xs i o bin b lt in_o at so_far = elim (cases_eq b bin) [ inl same ↦ here same | inr differ ↦ there differ ]
  where
    here : b ≡ bin → get_or (set o bin (get_or o bin (pos 0) +ℤ pos 1)) b (pos 0) ≡ pos (count_by p (take (i + 1) xs))
    here same =
        let into : (b == bin) ≡ true = grind (arith, nat_tests) in
        ap (λ (k : ℕ). get_or (set o bin (get_or o bin (pos 0) +ℤ pos 1)) k (pos 0)) same
        ∙ (get_or-set_same o bin (get_or o bin (pos 0) +ℤ pos 1) (pos 0) in_o
        ∙ counted_more p xs i (get_or o bin (pos 0)) lt (at ∙ into) (ap (λ (k : ℕ). get_or o k (pos 0)) (sym same) ∙ so_far))

    there : (b ≡ bin → ⊥) → get_or (set o bin (get_or o bin (pos 0) +ℤ pos 1)) b (pos 0) ≡ pos (count_by p (take (i + 1) xs))
    there differ =
        let out : (b == bin) ≡ false = grind (arith, nat_tests) in
        get_or-set_other o bin b (get_or o bin (pos 0) +ℤ pos 1) (pos 0) differ ∙ counted_same p xs i (get_or o b (pos 0)) lt (at ∙ out) so_far

pub counted_past : (p : ℤ → Bool) (xs : List ℤ) (i : ℕ) (o : List ℤ) (bin b : ℕ) → i < length xs → length o ≤ bin → b < length o → p (get_or xs i (pos 0)) ≡ (b == bin) → get_or o b (pos 0) ≡ pos (count_by p (take i xs)) → get_or o b (pos 0) ≡ pos (count_by p (take (i + 1) xs))
counted_past p xs i o bin b lt past in_o at so_far =
    let out : (b == bin) ≡ false = grind (arith, nat_tests) in
    counted_same p xs i (get_or o b (pos 0)) lt (at ∙ out) so_far

-- a width of at least 1, and how far a token is above the least
pub width_is : (width : ℤ) (w : ℕ) → pos 1 ≤ℤ width → w ≡ nat_abs width → (0 < w) × (width ≡ pos w)
width_is (pos n) w le is = (omega (arith, ints), ap pos (sym is))
width_is (negsuc n) w le is = absurd (omega (arith, ints))

pub gap_is : (low t z : ℤ) (d : ℕ) → low ≤ℤ t → z ≡ t +ℤ neg_ℤ low → d ≡ nat_abs z → t ≡ low +ℤ pos d
gap_is low t (pos n) d le is gap = regain low t (pos n) is ∙ ap (λ (k : ℕ). low +ℤ pos k) (sym gap)
  where
    regain : (low t z : ℤ) → z ≡ t +ℤ neg_ℤ low → t ≡ low +ℤ z
    regain low t z is = omega (arith, ints)
gap_is low t (negsuc n) d le is gap = absurd (omega (arith, ints))

pub count_fits : (p : ℤ → Bool) (xs : List ℤ) (i : ℕ) (o : List ℤ) (bin : ℕ) → i + 1 < 2 ^ 63 → get_or o bin (pos 0) ≡ pos (count_by p (take i xs)) → FitsSigned w64 (get_or o bin (pos 0) +ℤ pos 1)
count_fits p xs i o bin short is =
    let few : count_by p (take i xs) + 1 < 2 ^ 63 = omega (arith, count_by-le-length p (take i xs), length-take {A = ℤ}) in
    let fits : FitsSigned w64 (pos (count_by p (take i xs) + 1)) = record { sfits = few } in
    rw is fits
