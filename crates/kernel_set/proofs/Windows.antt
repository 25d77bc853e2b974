-- Sums of tokens near 0, and of the last of them as the place moves on.
use Rattle.std.proofs.Common.{◌≡◌, ℕ, suc, ◌+◌, ◌-◌, ◌*◌, ◌^◌, ◌<◌, ◌≤◌, min, Bool, true, false, List, [], ◌∷◌, ◌++◌, length, get_or, take, drop, sym, ap, subst, ◌∙◌, arith, FitsSigned, w64}
use Rattle.std.specs.Prelude.{ℤ, pos, negsuc, ◌+ℤ◌, ◌-ℤ◌, ◌≤ℤ◌, Result, Ok}
use Rattle.std.specs.Bool.{OnTrue}
use Rattle.std.specs.List.{between}
use Rattle.std.proofs.lemmas.Int.{ints}
use Rattle.std.proofs.lemmas.List.{drop_all, take-append-drop, take-take, take_more, length-take-le}
use Rattle.std.proofs.lemmas.List.Edits.{get_or-between, length-between}
use Rattle.std.proofs.lemmas.Slice.{between_is}
use Rattle.kernel_gate.specs.Tokens.{last, mean_of, onward, quotient, running, total}
use Rattle.kernel_gate.specs.declared.fault.KernelFault.{KernelFault}
use Rattle.kernel_set.specs.Near.{AreNear, IsNear, last_sum, plus, whole_sum}
use Rattle.kernel_set.proofs.Steps.{bounded_fits}

pub on_true : (b : Bool) (P Q : Type 0) → (P → Q) → OnTrue b P → OnTrue b Q
on_true true P Q f p = f p
on_true false P Q f p = tt

-- a part of tokens near 0
pub near_between : (xs : List ℤ) (i j : ℕ) → j ≤ length xs → AreNear xs → AreNear (between i j xs)
near_between xs i j le near n lt =
    let inside : i + n < j = omega (arith, length-between xs i j le) in
    subst IsNear (sym (get_or-between xs i j n (pos 0) inside)) (near (i + n) (omega arith))

zero_left : (a : ℤ) → a ≡ pos 0 +ℤ a
zero_left a = omega (arith, ints)

zero_right : (a : ℤ) → a ≡ a +ℤ pos 0
zero_right a = omega (arith, ints)

regroup : (a b c : ℤ) → a +ℤ (b +ℤ c) ≡ (a +ℤ b) +ℤ c
regroup a b c = omega (arith, ints)

swap : (a b : ℤ) → a +ℤ b ≡ b +ℤ a
swap a b = omega (arith, ints)

whole_append : (xs ys : List ℤ) → whole_sum (xs ++ ys) ≡ whole_sum xs +ℤ whole_sum ys
whole_append [] ys = zero_left (whole_sum ys)
whole_append (x ∷ xs) ys = ap (λ (s : ℤ). x +ℤ s) (whole_append xs ys) ∙ regroup x (whole_sum xs) (whole_sum ys)

whole_more : (xs : List ℤ) (i : ℕ) → i < length xs → whole_sum (take (i + 1) xs) ≡ whole_sum (take i xs) +ℤ get_or xs i (pos 0)
whole_more xs i lt =
    ap whole_sum (take_more xs i (pos 0) lt) ∙ (whole_append (take i xs) (get_or xs i (pos 0) ∷ []) ∙ ap (λ (s : ℤ). whole_sum (take i xs) +ℤ s) (sym (zero_right (get_or xs i (pos 0)))))

-- the last tokens and those before them are all
last_part : (w n : ℕ) (xs : List ℤ) → n ≤ length xs → last_sum w xs n +ℤ whole_sum (take (n - w) xs) ≡ whole_sum (take n xs)
last_part w n xs le =
    let len : length (take n xs) ≡ n = length-take-le n xs le in
    let front : take (n - w) (take n xs) ≡ take (n - w) xs = take-take (n - w) n xs (omega arith) in
    ap (λ (l : ℕ). whole_sum (drop (l - w) (take n xs)) +ℤ whole_sum (take (n - w) xs)) len
    ∙ (ap (λ (t : List ℤ). whole_sum (drop (n - w) (take n xs)) +ℤ whole_sum t) (sym front)
    ∙ (swap (whole_sum (drop (n - w) (take n xs))) (whole_sum (take (n - w) (take n xs)))
    ∙ (sym (whole_append (take (n - w) (take n xs)) (drop (n - w) (take n xs))) ∙ ap whole_sum (take-append-drop (n - w) (take n xs)))))

grown_by : (a b p q r s x : ℤ) → b +ℤ s ≡ q → a +ℤ r ≡ p → q ≡ p +ℤ x → s ≡ r → b ≡ a +ℤ x
grown_by a b p q r s x new old more same = omega (arith, ints)

moved_by : (a b p q r s x y : ℤ) → b +ℤ s ≡ q → a +ℤ r ≡ p → q ≡ p +ℤ x → s ≡ r +ℤ y → b ≡ (a +ℤ x) -ℤ y
moved_by a b p q r s x y new old more less = omega (arith, ints)

-- a place further, where no token leaves, and where one does
pub sum_grown : (w n : ℕ) (xs : List ℤ) → n < length xs → n < w → last_sum w xs n +ℤ get_or xs n (pos 0) ≡ last_sum w xs (n + 1)
sum_grown w n xs lt few =
    let none : n + 1 - w ≡ n - w = omega arith in
    sym (grown_by (last_sum w xs n) (last_sum w xs (n + 1)) (whole_sum (take n xs)) (whole_sum (take (n + 1) xs)) (whole_sum (take (n - w) xs)) (whole_sum (take (n + 1 - w) xs)) (get_or xs n (pos 0))
    (last_part w (n + 1) xs (omega arith)) (last_part w n xs (omega arith)) (whole_more xs n lt) (ap (λ (k : ℕ). whole_sum (take k xs)) none))

pub sum_moved : (w n : ℕ) (xs : List ℤ) → n < length xs → w ≤ n → (last_sum w xs n +ℤ get_or xs n (pos 0)) -ℤ get_or xs (n - w) (pos 0) ≡ last_sum w xs (n + 1)
sum_moved w n xs lt le =
    let next : n + 1 - w ≡ n - w + 1 = omega arith in
    sym (moved_by (last_sum w xs n) (last_sum w xs (n + 1)) (whole_sum (take n xs)) (whole_sum (take (n + 1) xs)) (whole_sum (take (n - w) xs)) (whole_sum (take (n + 1 - w) xs)) (get_or xs n (pos 0)) (get_or xs (n - w) (pos 0))
    (last_part w (n + 1) xs (omega arith)) (last_part w n xs (omega arith)) (whole_more xs n lt) (ap (λ (k : ℕ). whole_sum (take k xs)) next ∙ whole_more xs (n - w) (omega arith)))

pub no_sum : (w : ℕ) (xs : List ℤ) → last_sum w xs 0 ≡ pos 0
no_sum w xs =
    let none : drop (length (take 0 xs) - w) (take 0 xs) ≡ [] = drop_all (length (take 0 xs) - w) (take 0 xs) (omega arith) in
    ap whole_sum none

-- so many tokens near 0 sum up to a number near 0
abbrev pub IsWithin : ℕ → ℤ → Type 0
IsWithin k z = (z ≤ℤ pos (k * 2 ^ 27)) × (pos 0 ≤ℤ (z +ℤ pos (k * 2 ^ 27)))

pub within_more : (a x : ℤ) (k : ℕ) → IsNear x → IsWithin k a → IsWithin (k + 1) (a +ℤ x)
within_more a x k near within = (omega (arith, ints), omega (arith, ints))

pub within_less : (a x : ℤ) (k : ℕ) → IsNear x → IsWithin k a → IsWithin (k + 1) (a -ℤ x)
within_less a x k near within = (omega (arith, ints), omega (arith, ints))

within_wider : (a : ℤ) (j k : ℕ) → j ≤ k → IsWithin j a → IsWithin k a
within_wider a j k le within = (omega (arith, ints), omega (arith, ints))

pub within_fits : (z : ℤ) (k : ℕ) → k ≤ 66 → IsWithin k z → FitsSigned w64 z
within_fits (pos n) k le within = record { sfits = omega (arith, ints) }
within_fits (negsuc n) k le within = record { sfits = omega (arith, ints) }

near_tail : (x : ℤ) (xs : List ℤ) → AreNear (x ∷ xs) → AreNear xs
near_tail x xs near n lt = near (suc n) (omega arith)

near_head : (x : ℤ) (xs : List ℤ) → AreNear (x ∷ xs) → IsNear x
near_head x xs near = near 0 (omega arith)

whole_within : (xs : List ℤ) → AreNear xs → IsWithin (length xs) (whole_sum xs)
whole_within [] near = (omega (arith, ints), omega (arith, ints))
whole_within (x ∷ xs) near =
    let more = within_more (whole_sum xs) x (length xs) (near_head x xs near) (whole_within xs (near_tail x xs near)) in
    let Within : ℤ → Type 0 = λ z. IsWithin (length xs + 1) z in
    within_wider (x +ℤ whole_sum xs) (length xs + 1) (length (x ∷ xs)) (omega arith) (subst Within (swap (whole_sum xs) x) more)

-- so few tokens near 0 leave i64 at no step
near_total : (xs : List ℤ) (a : ℤ) (k : ℕ) → AreNear xs → IsWithin k a → k + length xs ≤ 64 → running plus a xs ≡ Ok (a +ℤ whole_sum xs)
near_total [] a k near within few = ap Ok (zero_right a)
near_total (x ∷ xs) a k near within few =
    let more = within_more a x k (near_head x xs near) within in
    let fits = within_fits (a +ℤ x) (k + 1) (omega arith) more in
    ap (λ v. onward v (λ b. running plus b xs)) (bounded_fits (a +ℤ x) fits)
    ∙ (near_total xs (a +ℤ x) (k + 1) (near_tail x xs near) more (omega arith) ∙ ap Ok (sym (regroup a x (whole_sum xs))))

near_mean : (xs : List ℤ) → AreNear xs → length xs ≤ 64 → mean_of xs ≡ quotient (whole_sum xs) (pos (length xs))
near_mean xs near few =
    let whole : total xs ≡ Ok (whole_sum xs) = near_total xs (pos 0) 0 near (omega (arith, ints), omega (arith, ints)) (omega arith) ∙ ap Ok (sym (zero_left (whole_sum xs))) in
    ap (λ v. onward v (λ a. quotient a (pos (length xs)))) whole

-- the last tokens before a place are a part of the list
last_between : (w n : ℕ) (xs : List ℤ) → n ≤ length xs → between (n - w) n xs ≡ last w (take n xs)
last_between w n xs le =
    let len : length (take n xs) ≡ n = length-take-le n xs le in
    between_is xs (n - w) n ∙ ap (λ (k : ℕ). drop (k - w) (take n xs)) (sym len)

last_near : (w n : ℕ) (xs : List ℤ) → n ≤ length xs → AreNear xs → AreNear (last w (take n xs))
last_near w n xs le near = subst AreNear (last_between w n xs le) (near_between xs (n - w) n le near)

last_length : (w n : ℕ) (xs : List ℤ) → n ≤ length xs → length (last w (take n xs)) ≡ min w n
last_length w n xs le = ap (λ (l : List ℤ). length l) (sym (last_between w n xs le)) ∙ (length-between xs (n - w) n le ∙ omega arith)

mean_at : (w n : ℕ) (xs : List ℤ) → w ≤ 64 → n ≤ length xs → AreNear xs → mean_of (last w (take n xs)) ≡ quotient (last_sum w xs n) (pos (min w n))
mean_at w n xs few le near =
    let len = last_length w n xs le in
    near_mean (last w (take n xs)) (last_near w n xs le near) (omega (arith, len)) ∙ ap (λ (k : ℕ). quotient (last_sum w xs n) (pos k)) len

last_within : (w n : ℕ) (xs : List ℤ) → w ≤ 64 → n ≤ length xs → AreNear xs → IsWithin 64 (last_sum w xs n)
last_within w n xs few le near =
    let len = last_length w n xs le in
    within_wider (last_sum w xs n) (length (last w (take n xs))) 64 (omega (arith, len)) (whole_within (last w (take n xs)) (last_near w n xs le near))

pub sum_within : (w n : ℕ) (xs : List ℤ) (all : ℤ) → w ≤ 64 → n ≤ length xs → AreNear xs → all ≡ last_sum w xs n → IsWithin 64 all
sum_within w n xs all few le near is = let Within : ℤ → Type 0 = λ z. IsWithin 64 z in subst Within (sym is) (last_within w n xs few le near)

-- a mean as the quotient of the sum that was kept
pub mean_from : (w n : ℕ) (xs : List ℤ) (all : ℤ) (count : ℕ) (r : Result ℤ KernelFault) → w ≤ 64 → n < length xs → AreNear xs → all ≡ last_sum w xs (n + 1) → count ≡ min w (n + 1) → r ≡ quotient all (pos count)
    → mean_of (last w (take (n + 1) xs)) ≡ r
mean_from w n xs all count r few lt near is counted said =
    mean_at w (n + 1) xs few (omega arith) near
    ∙ sym (said ∙ (ap (λ (a : ℤ). quotient a (pos count)) is ∙ ap (λ (k : ℕ). quotient (last_sum w xs (n + 1)) (pos k)) counted))
