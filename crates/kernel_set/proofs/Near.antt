-- Sums of tokens near 0 stay within i64.
use Rattle.std.proofs.Common.{◌≡◌, ℕ, [], ◌∷◌, ◌++◌, refl, zip, take, drop, zero, suc, ◌-◌, ◌+◌, ◌*◌, ◌^◌, ◌<◌, ◌≤◌, ⊎_elim, Bool, true, ◌&&◌, List, length, get_or, sym, ap, ◌∙◌, subst, arith, FitsSigned, w64}
use Rattle.std.specs.Prelude.{ℤ, pos, negsuc, int_lt, unsigned_abs, ◌+ℤ◌, ◌*ℤ◌, ◌≤ℤ◌, ◌<ℤ◌, Result, Ok, Err}
use Rattle.std.proofs.lemmas.Int.{ints, unsigned_abs-mul, fits_signed_mul}
use Rattle.std.proofs.lemmas.Bool.{and_parts, cases_lt}
use Rattle.std.proofs.lemmas.List.{take-append-drop, drop-append-le, length-take-le, length-drop}
use Rattle.std.proofs.lemmas.Slice.{between_is}
use Rattle.std.specs.List.{between}
use Rattle.kernel_gate.specs.Tokens.{running, onward}
use Rattle.kernel_gate.specs.declared.fault.KernelFault.{KernelFault}
use Rattle.kernel_set.specs.Near.{IsNear, IsCentral}

near_token : (t : ℤ) → int_lt t (pos (2 ^ 27)) ≡ true → int_lt (negsuc 134217727) t ≡ true → IsNear t
near_token t below above = (grind (arith, ints), grind (arith, ints))

-- one more token was looked at
pub near_more : (near : Bool) (xs : List ℤ) (i : ℕ) (t : ℤ) → (near ≡ true → (n : ℕ) → n < i → IsNear (get_or xs n (pos 0))) → t ≡ get_or xs i (pos 0)
    → (near && int_lt t (pos (2 ^ 27)) && int_lt (negsuc 134217727) t) ≡ true → (n : ℕ) → n < i + 1 → IsNear (get_or xs n (pos 0))
near_more near xs i t so_far is h n lt =
    let last = and_parts (near && int_lt t (pos (2 ^ 27))) (int_lt (negsuc 134217727) t) h in
    let first = and_parts near (int_lt t (pos (2 ^ 27))) last.0 in
    ⊎_elim (λ old. so_far first.0 n old) (λ ge. let here : i ≡ n = omega arith in subst IsNear (is ∙ ap (λ k. get_or xs k (pos 0)) here) (near_token t first.1 last.1)) (cases_lt n i)

-- what stays near a central sum fits
fits_near : (start z : ℤ) → IsCentral start → z ≤ℤ (start +ℤ pos (2 ^ 61)) → start ≤ℤ (z +ℤ pos (2 ^ 61)) → FitsSigned w64 z
fits_near start (pos n) c above below = record { sfits = omega (arith, ints) }
fits_near start (negsuc n) c above below = record { sfits = omega (arith, ints) }

-- a sum of so many terms, each at most m from 0, is at most that many times m from where it began
pub wider : (start all t : ℤ) (i m : ℕ) → unsigned_abs t ≤ m → all ≤ℤ (start +ℤ pos (i * m)) → start ≤ℤ (all +ℤ pos (i * m))
    → ((all +ℤ t) ≤ℤ (start +ℤ pos ((i + 1) * m))) × (start ≤ℤ ((all +ℤ t) +ℤ pos ((i + 1) * m)))
wider start all (pos n) i m small above below = (omega (arith, ints), omega (arith, ints))
wider start all (negsuc n) i m small above below = (omega (arith, ints), omega (arith, ints))

pub near_abs : (t : ℤ) → IsNear t → unsigned_abs t ≤ 2 ^ 27
near_abs (pos n) h = omega (arith, ints)
near_abs (negsuc n) h = omega (arith, ints)

pub central : (a : ℤ) → a <ℤ pos (2 ^ 62) → int_lt (negsuc 4611686018427387903) a ≡ true → IsCentral a
central a below above = (below, grind (arith, ints))

pub at_zero : IsCentral (pos 0)
at_zero = (omega (arith, ints), omega (arith, ints))

pub product_fits : (x z : ℤ) → IsNear x → IsNear z → FitsSigned w64 (x *ℤ z)
product_fits x z h k = fits_signed_mul w64 x z (2 ^ 27) (2 ^ 27) (near_abs x h) (near_abs z k) (omega arith)

pub near_product : (x z : ℤ) → IsNear x → IsNear z → unsigned_abs (x *ℤ z) ≤ 2 ^ 54
near_product x z h k = product_of (unsigned_abs x) (unsigned_abs z) (near_abs x h) (near_abs z k) (unsigned_abs-mul x z)
  where
    product_of : (a b : ℕ) {p : ℕ} → a ≤ 2 ^ 27 → b ≤ 2 ^ 27 → p ≡ a * b → p ≤ 2 ^ 54
    product_of a b small few is = grind arith

-- one more term of at most m fits
pub sum_fits : (start all t : ℤ) (i m : ℕ) → IsCentral start → i < 64 → m ≤ 2 ^ 54 → unsigned_abs t ≤ m → all ≤ℤ (start +ℤ pos (i * m)) → start ≤ℤ (all +ℤ pos (i * m)) → FitsSigned w64 (all +ℤ t)
sum_fits start all t i m c few size small above below =
    let next = wider start all t i m small above below in
    let room : (i + 1) * m ≤ 2 ^ 61 = grind arith in
    fits_near start (all +ℤ t) c (more_above (all +ℤ t) start ((i + 1) * m) next.0 room) (more_below start (all +ℤ t) ((i + 1) * m) next.1 room)
  where
    more_above : (a b : ℤ) (k : ℕ) → a ≤ℤ (b +ℤ pos k) → k ≤ 2 ^ 61 → a ≤ℤ (b +ℤ pos (2 ^ 61))
    more_above a b k h le = omega (arith, ints)

    more_below : (a b : ℤ) (k : ℕ) → a ≤ℤ (b +ℤ pos k) → k ≤ 2 ^ 61 → a ≤ℤ (b +ℤ pos (2 ^ 61))
    more_below a b k h le = omega (arith, ints)

-- running on over what comes after
pub running_on : {A : Type 0} (f : ℤ → A → Result ℤ KernelFault) (a : ℤ) (xs ys : List A) → running f a (xs ++ ys) ≡ onward (running f a xs) (λ b. running f b ys)
running_on f a [] ys = refl
running_on f a (x ∷ xs) ys = on (f a x) (λ b. running_on f b xs ys)
  where
    on : (r : Result ℤ KernelFault) → ((b : ℤ) → running f b (xs ++ ys) ≡ onward (running f b xs) (λ d. running f d ys))
        → onward r (λ b. running f b (xs ++ ys)) ≡ onward (onward r (λ b. running f b xs)) (λ b. running f b ys)
    on (Ok y) rest = rest y
    on (Err e) rest = refl

-- a list from a place on is a part of it and what comes after
parted : {A : Type 0} (xs : List A) (i j : ℕ) → i ≤ j → j ≤ length xs → drop i xs ≡ between i j xs ++ drop j xs
parted xs i j le within =
    ap (drop i) (sym (take-append-drop j xs))
    ∙ (drop-append-le i (take j xs) (drop j xs) (omega (arith, length-take-le j xs within))
    ∙ ap (λ l. l ++ drop j xs) (sym (between_is xs i j)))

-- a part further
pub part_more : {A : Type 0} (f : ℤ → A → Result ℤ KernelFault) (a b : ℤ) (xs : List A) (i j : ℕ) (r : Result ℤ KernelFault) → i ≤ j → j ≤ length xs → running f a (drop i xs) ≡ r → running f a (between i j xs) ≡ Ok b
    → running f b (drop j xs) ≡ r
part_more f a b xs i j r le within so_far at =
    sym (ap (running f a) (parted xs i j le within) ∙ (running_on f a (between i j xs) (drop j xs) ∙ ap (λ v. onward v (λ d. running f d (drop j xs))) at)) ∙ so_far

pub part_fault : {A : Type 0} (f : ℤ → A → Result ℤ KernelFault) (a : ℤ) (e : KernelFault) (xs : List A) (i j : ℕ) (r : Result ℤ KernelFault) → i ≤ j → j ≤ length xs → running f a (drop i xs) ≡ r → running f a (between i j xs) ≡ Err e
    → Err e ≡ r
part_fault f a e xs i j r le within so_far at =
    sym (ap (running f a) (parted xs i j le within) ∙ (running_on f a (between i j xs) (drop j xs) ∙ ap (λ v. onward v (λ d. running f d (drop j xs))) at)) ∙ so_far

zip_drop : (n : ℕ) (xs zs : List ℤ) → length xs ≡ length zs → zip (drop n xs) (drop n zs) ≡ drop n (zip xs zs)
zip_drop zero xs zs same = refl
zip_drop (suc n) [] [] same = refl
zip_drop (suc n) [] (z ∷ zs) same = absurd (omega arith)
zip_drop (suc n) (x ∷ xs) [] same = absurd (omega arith)
zip_drop (suc n) (x ∷ xs) (z ∷ zs) same = zip_drop n xs zs (omega arith)

zip_take : (n : ℕ) (xs zs : List ℤ) → length xs ≡ length zs → zip (take n xs) (take n zs) ≡ take n (zip xs zs)
zip_take zero xs zs same = refl
zip_take (suc n) [] [] same = refl
zip_take (suc n) [] (z ∷ zs) same = absurd (omega arith)
zip_take (suc n) (x ∷ xs) [] same = absurd (omega arith)
zip_take (suc n) (x ∷ xs) (z ∷ zs) same = ap (λ l. (x, z) ∷ l) (zip_take n xs zs (omega arith))

-- the pairs of two parts are a part of the pairs
pub zip_between : (i j : ℕ) (xs zs : List ℤ) → length xs ≡ length zs → zip (between i j xs) (between i j zs) ≡ between i j (zip xs zs)
zip_between i j xs zs same = zip_take (j - i) (drop i xs) (drop i zs) (omega (arith, length-drop i xs, length-drop i zs)) ∙ ap (take (j - i)) (zip_drop i xs zs same)
