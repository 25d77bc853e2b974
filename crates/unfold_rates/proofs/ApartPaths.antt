-- A path stands within that of one firing alone.
use Rattle.std.proofs.Common.{◌≡◌, ◌≢◌, ℕ, ◌<◌, ◌^◌, ◌&&◌, not, nat_le, Bool, true, false, List, [], ◌∷◌, ◌++◌, length, refl, ap, sym, ◌∙◌, subst, arith, append_assoc}
use Rattle.std.specs.Fmt.{decimal}
use Rattle.std.specs.List.{AllByRecursion, list_all}
use Rattle.std.proofs.lemmas.Bool.{and_parts}
use Rattle.std.proofs.lemmas.Bool.Decides.{nat_tests}
use Rattle.std.proofs.lemmas.List.{append_cancel_left}
use Rattle.std.proofs.lemmas.Fmt.{decimal_injective, digits_decimal}
use Rattle.param_expr.proofs.Numerals.{own}
use Rattle.param_expr.specs.Limits.{most_name_bytes}
use Rattle.param_expr.specs.Words.{IsName, is_digit, is_name, is_reserved, is_word_byte, starts_with_letter}
use Rattle.pisdf_meaning.specs.Endings.{child_path}
use Rattle.unfold_rates.specs.Cut.{ends_or_goes_down}
use Rattle.unfold_rates.proofs.Within.{Within}

-- none of these is the byte
abbrev Without : ℕ → List ℕ → Type 0
Without c bytes = AllByRecursion (λ b. b ≢ c) bytes

without_by : (test : ℕ → Bool) (c : ℕ) → test c ≡ false → (bytes : List ℕ) → list_all test bytes ≡ true → Without c bytes
without_by test c free [] all = tt
without_by test c free (b ∷ bytes) all =
    let parts = and_parts (test b) (list_all test bytes) all in
    ((λ same. let yes : test c ≡ true = ap test (sym same) ∙ parts.0 in absurd (cc)), without_by test c free bytes parts.1)

-- up to the first such byte two equal lists are one
up_to : (c : ℕ) (x y a b : List ℕ) → Without c x → Without c y → x ++ (c ∷ a) ≡ y ++ (c ∷ b) → (x ≡ y) × (a ≡ b)
up_to c [] [] a b free free' same = (refl, cc)
up_to c [] (y ∷ ys) a b free free' same = absurd (free'.0 (let e : y ≡ c = cc in e))
up_to c (x ∷ xs) [] a b free free' same = absurd (free.0 (let e : x ≡ c = cc in e))
up_to c (x ∷ xs) (y ∷ ys) a b free free' same =
    let first : x ≡ y = cc in
    let rest = up_to c xs ys a b free.1 free'.1 (cc) in
    (ap (λ (z : ℕ). z ∷ xs) first ∙ ap (λ (zs : List ℕ). y ∷ zs) rest.0, rest.1)

slash : (b : ℕ) (rest : List ℕ) → ends_or_goes_down (b ∷ rest) ≡ true → b ≡ 47
slash b rest h = grind (arith, nat_tests)

up_to_slash : (x y a b : List ℕ) → Without 47 x → Without 47 y → ends_or_goes_down a ≡ true → ends_or_goes_down b ≡ true → x ++ a ≡ y ++ b → x ≡ y
up_to_slash [] [] a b free free' down down' same = refl
up_to_slash [] (y ∷ ys) a b free free' down down' same =
    let P : List ℕ → Type 0 = λ l. ends_or_goes_down l ≡ true in
    absurd (free'.0 (slash y (ys ++ b) (subst P same down)))
up_to_slash (x ∷ xs) [] a b free free' down down' same =
    let P : List ℕ → Type 0 = λ l. ends_or_goes_down l ≡ true in
    absurd (free.0 (slash x (xs ++ a) (subst P (sym same) down')))
up_to_slash (x ∷ xs) (y ∷ ys) a b free free' down down' same =
    let first : x ≡ y = cc in
    let rest = up_to_slash xs ys a b free.1 free'.1 down down' (cc) in
    ap (λ (z : ℕ). z ∷ xs) first ∙ ap (λ (zs : List ℕ). y ∷ zs) rest

name_without : (c : ℕ) → is_word_byte c ≡ false → (name : List ℕ) → IsName name → Without c name
name_without c free name is =
    let all : is_name name ≡ true = grind (arith, nat_tests) in
    let three = and_parts (starts_with_letter name && list_all is_word_byte name && nat_le (length name) most_name_bytes) (not (is_reserved name)) all in
    let two = and_parts (starts_with_letter name && list_all is_word_byte name) (nat_le (length name) most_name_bytes) three.0 in
    without_by is_word_byte c free name (and_parts (starts_with_letter name) (list_all is_word_byte name) two.0).1

regrouped : (top x : List ℕ) (k : ℕ) (rest : List ℕ) → child_path top x k ++ rest ≡ top ++ (47 ∷ (x ++ (58 ∷ (decimal k ++ rest))))
regrouped top x k rest =
    append_assoc top (47 ∷ (x ++ (58 ∷ decimal k))) rest ∙ ap (λ (l : List ℕ). top ++ (47 ∷ l)) (append_assoc x (58 ∷ decimal k) rest)

pub one_firing : (top x y : List ℕ) (k m : ℕ) (path : List ℕ) → IsName x → IsName y → k < 2 ^ 64 → m < 2 ^ 64 → Within (child_path top x k) path → Within (child_path top y m) path → (x ≡ y) × (k ≡ m)
one_firing top x y k m path named named' small small' w w' =
    let same : top ++ (47 ∷ (x ++ (58 ∷ (decimal k ++ w.rest)))) ≡ top ++ (47 ∷ (y ++ (58 ∷ (decimal m ++ w'.rest)))) = sym (regrouped top x k w.rest) ∙ sym w.is ∙ w'.is ∙ regrouped top y m w'.rest in
    let below = append_cancel_left top _ _ same in
    let names = up_to 58 x y (decimal k ++ w.rest) (decimal m ++ w'.rest) (name_without 58 refl x named) (name_without 58 refl y named') (cc) in
    let numbers = up_to_slash (decimal k) (decimal m) w.rest w'.rest (without_by is_digit 47 refl (decimal k) (digits_decimal own k small)) (without_by is_digit 47 refl (decimal m) (digits_decimal own m small')) w.down w'.down names.1 in
    (names.0, decimal_injective k m small small' numbers)
