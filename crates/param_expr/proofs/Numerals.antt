-- The numbers that digits write.
use Rattle.std.proofs.Common.{subst, ◌≡◌, ℕ, zero, suc, cond, get_or, false, ◌<◌, ◌≤◌, ◌^◌, Bool, true, false, List, [], ◌∷◌, length, Result, Ok, Err, ℤ, pos, refl, arith, ◌&&◌, w64}
use Rattle.std.proofs.lemmas.Bool.{and_parts, and_from}
use Rattle.std.specs.List.{list_all, take_while}
use Rattle.std.specs.Int.{IsInRange}
use Rattle.std.specs.Str.{IsAscii, IsUtf8}
use Rattle.std.proofs.lemmas.Str.{IsUtf8-from_ascii}
use Rattle.std.specs.Result.{OkIff, result_ok}
use Rattle.std.specs.Str.Parse.{digits_value, ParsesSigned}
use Rattle.std.proofs.lemmas.Str.Parse.{IsNumeralModel, IsDigitsTest, numerals_by_value, parse_signed_digits}
use Rattle.std.proofs.lemmas.Bool.Decides.{nat_tests}
use Rattle.param_expr.specs.Words.{is_digit, is_word_byte, is_name, starts_with_letter}
use Rattle.param_expr.specs.Machine.{limited, symbol_of}
use Rattle.param_expr.specs.Tokens.{word_token, function, name, other}
use Rattle.param_expr.specs.declared.op.Op.TheVariants.{Min, Max}
use Rattle.param_expr.specs.declared.symbol.Symbol.TheVariants.{Other}
use Rattle.std.specs.Prelude.{codes}
use Rattle.std.specs.Str.{bytes_eq}
use Rattle.std.proofs.lemmas.List.Sums.{take_while-cons}

in_range : (c : ℕ) → is_digit c ≡ true → IsInRange 48 57 c
in_range c h = grind (arith, nat_tests)

not_below : (m n : ℕ) → (m < n → ⊥) → n ≤ m
not_below m n h = omega arith

is_in : (c : ℕ) → IsInRange 48 57 c → is_digit c ≡ true
is_in c h = grind (arith, nat_tests)

digits_test : IsDigitsTest (λ ds. list_all is_digit ds ≡ true)
digits_test = record {
  empty = refl;
  parts = λ c cs h. let p = and_parts (is_digit c) (list_all is_digit cs) h in (in_range c p.0, p.1);
  more = λ c cs h k. and_from (is_digit c) (list_all is_digit cs) (is_in c h) k;
}

pub own : IsNumeralModel (λ ds. list_all is_digit ds ≡ true) (digits_value 10)
own = numerals_by_value _ digits_test

kept : (p : ℕ → Bool) (x : ℕ) (xs : List ℕ) (b : Bool) → p x ≡ b → list_all p xs ≡ true → list_all p (cond b (x ∷ xs) []) ≡ true
kept p x xs true e h = and_from (p x) (list_all p xs) e h
kept p x xs false e h = refl

-- each of the longest run passes
pub run_passes : (p : ℕ → Bool) (xs : List ℕ) → list_all p (take_while p xs) ≡ true
run_passes p [] = refl
run_passes p (x ∷ xs) = rw (take_while-cons p x xs) (kept p x (take_while p xs) (p x) refl (run_passes p xs))

all_below : (p : ℕ → Bool) → ((b : ℕ) → p b ≡ true → b < 128) → (bytes : List ℕ) → list_all p bytes ≡ true → IsAscii bytes
all_below p ascii [] h = λ i. omega arith
all_below p ascii (b ∷ bytes) h =
    let parts = and_parts (p b) (list_all p bytes) h in
    λ i. elim i as (λ k. get_or (b ∷ bytes) k 0 < 128) [ zero ↦ ascii b parts.0 | suc k ↦ all_below p ascii bytes parts.1 k ]

digit_below : (b : ℕ) → is_digit b ≡ true → b < 128
digit_below b h = grind (arith, nat_tests)

word_byte_below : (b : ℕ) → is_word_byte b ≡ true → b < 128
word_byte_below b h = grind (arith, nat_tests)

pub digits_are_text : (bytes : List ℕ) → list_all is_digit bytes ≡ true → IsUtf8 bytes
digits_are_text bytes h = IsUtf8-from_ascii bytes (all_below is_digit digit_below bytes h)

pub words_are_text : (bytes : List ℕ) → list_all is_word_byte bytes ≡ true → IsUtf8 bytes
words_are_text bytes h = IsUtf8-from_ascii bytes (all_below is_word_byte word_byte_below bytes h)

not_named : (a b c d : Bool) → (b ≡ true → ⊥) → (a && b && c && d) ≡ false
not_named a true c d h = absurd (h refl)
not_named true false c d h = refl
not_named false false c d h = refl

-- what isn't text is no name
pub no_text_no_name : (bytes : List ℕ) → ¬ (IsUtf8 bytes) → is_name bytes ≡ false
no_text_no_name bytes h = not_named (starts_with_letter bytes) (list_all is_word_byte bytes) _ _ (λ all. h (words_are_text bytes all))

other_of : (w : List ℕ) (a b c : Bool) → a ≡ false → b ≡ false → c ≡ false → Other ≡ symbol_of (cond a (function Min) (cond b (function Max) (cond c (name w) other)))
other_of w a b c h k m = rw (h, k, m) refl

pub other_word : (w : List ℕ) → bytes_eq w (codes "min") ≡ false → bytes_eq w (codes "max") ≡ false → is_name w ≡ false → Other ≡ symbol_of (word_token w)
other_word w no_min no_max no_name = other_of w _ _ _ no_min no_max no_name

-- a number within i64, and no other, is read
ok_within : {E : Type 0} (n : ℕ) (r : Result ℤ E) (some : Type 0) → some → OkIff r (some × (n < 2 ^ 63)) (pos n) → result_ok r ≡ limited n
ok_within n (Ok z) some here h = let lt = h.0.1 in let is = h.1 in grind (arith, nat_tests)
ok_within n (Err e) some here h = let le : 2 ^ 63 ≤ n = not_below n (2 ^ 63) (λ lt. h (here, lt)) in grind (arith, nat_tests)

parsed_number : {E : Type 0} (digits : List ℕ) (r : Result ℤ E) → ParsesSigned w64 10 digits r → list_all is_digit digits ≡ true → 0 < length digits → result_ok r ≡ limited (digits_value 10 digits)
parsed_number digits r parses all some = ok_within (digits_value 10 digits) r (0 < length digits) some (parse_signed_digits own w64 digits r parses all)

pub parsed_text : {E : Type 0} (text digits : List ℕ) (r : Result ℤ E) → text ≡ digits → ParsesSigned w64 10 text r → list_all is_digit digits ≡ true → 0 < length digits → result_ok r ≡ limited (digits_value 10 digits)
parsed_text text digits r e parses all some = parsed_number digits r (subst (λ t. ParsesSigned w64 10 t r) e parses) all some
