-- One step, a fault and the end of a loop that writes images.
use Rattle.std.proofs.Common.{◌≡◌, ℕ, ◌+◌, ◌<◌, ◌≤◌, List, [], ◌∷◌, ◌++◌, length, get_or, set, take, drop, refl, sym, ap, ◌∙◌, append_assoc, append-nil, zip, arith, ◌-◌, ◌*◌, w64, ◌^◌, nat_lt, zero-add, length-set, length-take, length-drop, reverse}
use Rattle.std.proofs.lemmas.List.{get_or-reverse}
use Rattle.std.proofs.lemmas.Int.{ints}
use Rattle.std.proofs.lemmas.Bool.{lt-ltb}
use Rattle.std.specs.Prelude.{ℤ, pos, negsuc, FitsSigned, ◌+ℤ◌, ◌*ℤ◌, Bool, true, false, cond, Result, Ok, Err}
use Rattle.std.proofs.lemmas.List.{at_drop_more, at_drop_all, take_more_set}
use Rattle.std.proofs.lemmas.Slice.Zip.{get_or-zip, length-zip}
use Rattle.std.proofs.Math.IntN.{suc_ℤ, suc_ℤ-*ℤ}
use Rattle.std.proofs.Math.Seq.{take-length}
use Rattle.std.proofs.lemmas.List.FromFn.{length-range_with_len, get_or-range_with_len}
use Rattle.std.proofs.lemmas.Slice.{between_is, take-put_mid}
use borrow.Rule.Slice.PartMut.{put_mid}
use Rattle.std.proofs.lemmas.List.{take_more, take_all, length-take-le}
use Rattle.std.proofs.lemmas.List.Concat.{flat_map-append}
use Rattle.std.specs.List.{between, flat_map}
use Rattle.kernel_gate.specs.Tokens.{bounded, is_token, fault, prepend, before, each, places, onward, running, last, window}
use Rattle.kernel_gate.specs.declared.fault.KernelFault.{KernelFault}

prepend-prepend : (ys : List ℤ) (y : ℤ) (r : Result (List ℤ) KernelFault) → prepend ys (prepend (y ∷ []) r) ≡ prepend (ys ++ y ∷ []) r
prepend-prepend ys y (Ok zs) = ap Ok (sym (append_assoc ys (y ∷ []) zs))
prepend-prepend ys y (Err f) = refl

-- what has been written, before the images of what is left
abbrev pub WrittenTo : {A : Type 0} → (A → Result ℤ KernelFault) → List A → ℕ → List ℤ → Type 0
WrittenTo f xs i o = each f xs ≡ prepend (take i o) (each f (drop i xs))

pub written_start : {A : Type 0} (f : A → Result ℤ KernelFault) (xs : List A) (o : List ℤ) → WrittenTo f xs 0 o
written_start f xs o = nothing (each f xs)
  where
    nothing : (r : Result (List ℤ) KernelFault) → r ≡ prepend [] r
    nothing (Ok zs) = refl
    nothing (Err e) = refl

written_more : {A : Type 0} (f : A → Result ℤ KernelFault) (xs : List A) (i : ℕ) (o : List ℤ) (d : A) (y : ℤ) → i < length xs → i < length o → WrittenTo f xs i o → f (get_or xs i d) ≡ Ok y
    → WrittenTo f xs (i + 1) (set o i y)
written_more f xs i o d y in_xs in_o so_far e =
    so_far
    ∙ (ap (prepend (take i o)) (at_drop_more (each f) xs i d in_xs ∙ ap (λ v. before v (each f (drop (i + 1) xs))) e)
    ∙ (prepend-prepend (take i o) y (each f (drop (i + 1) xs))
    ∙ ap (λ ys. prepend ys (each f (drop (i + 1) xs))) (sym (take_more_set o i y in_o))))

written_fault : {A : Type 0} (f : A → Result ℤ KernelFault) (xs : List A) (i : ℕ) (o : List ℤ) (d : A) (e : KernelFault) → i < length xs → WrittenTo f xs i o → f (get_or xs i d) ≡ Err e → each f xs ≡ Err e
written_fault f xs i o d e in_xs so_far at =
    so_far ∙ ap (prepend (take i o)) (at_drop_more (each f) xs i d in_xs ∙ ap (λ v. before v (each f (drop (i + 1) xs))) at)

written_all : {A : Type 0} (f : A → Result ℤ KernelFault) (xs : List A) (i : ℕ) (o : List ℤ) → length xs ≤ i → length o ≡ i → WrittenTo f xs i o → each f xs ≡ Ok o
written_all f xs i o le len so_far =
    so_far
    ∙ (ap (prepend (take i o)) (at_drop_all (each f) xs i le)
    ∙ ap Ok (append-nil (take i o) ∙ (ap (λ n. take n o) (sym len) ∙ take-length o)))

-- the same over the pairs of two lists
pub pair_more : (f : ℤ × ℤ → Result ℤ KernelFault) (xs zs : List ℤ) (i : ℕ) (o : List ℤ) (d e y : ℤ) → i < length xs → length zs ≡ length xs → length o ≡ length xs → WrittenTo f (zip xs zs) i o → f (get_or xs i d, get_or zs i e) ≡ Ok y
    → WrittenTo f (zip xs zs) (i + 1) (set o i y)
pair_more f xs zs i o d e y in_xs same same_o so_far at =
    written_more f (zip xs zs) i o (d, e) y (omega (arith, length-zip xs zs)) (omega arith) so_far (ap f (get_or-zip xs zs i (d, e) in_xs (omega arith)) ∙ at)

pub pair_fault : (f : ℤ × ℤ → Result ℤ KernelFault) (xs zs : List ℤ) (i : ℕ) (o : List ℤ) (d e : ℤ) (fault : KernelFault) → i < length xs → length zs ≡ length xs → WrittenTo f (zip xs zs) i o → f (get_or xs i d, get_or zs i e) ≡ Err fault
    → each f (zip xs zs) ≡ Err fault
pair_fault f xs zs i o d e fault in_xs same so_far at =
    written_fault f (zip xs zs) i o (d, e) fault (omega (arith, length-zip xs zs)) so_far (ap f (get_or-zip xs zs i (d, e) in_xs (omega arith)) ∙ at)

pub pair_all : (f : ℤ × ℤ → Result ℤ KernelFault) (xs zs : List ℤ) (i : ℕ) (o : List ℤ) → length xs ≤ i → i ≤ length xs → length zs ≡ length xs → length o ≡ length xs → WrittenTo f (zip xs zs) i o → each f (zip xs zs) ≡ Ok o
pair_all f xs zs i o le ge same same_o so_far = written_all f (zip xs zs) i o (omega (arith, length-zip xs zs)) (omega arith) so_far

pub length_places : (n : ℕ) → length (places n) ≡ n
length_places n = length-range_with_len 0 n

pub place_at : (n i d : ℕ) → i < n → get_or (places n) i d ≡ i
place_at n i d lt = get_or-range_with_len 0 n i d lt ∙ zero-add i

-- the same over the places of the tokens that are written
pub placed_more : (f : ℕ → Result ℤ KernelFault) (i : ℕ) (o : List ℤ) (y : ℤ) → i < length o → WrittenTo f (places (length o)) i o → f i ≡ Ok y → WrittenTo f (places (length (set o i y))) (i + 1) (set o i y)
placed_more f i o y in_o so_far at =
    let in_places : i < length (places (length o)) = omega (arith, length_places (length o)) in
    rw length-set
    (written_more f (places (length o)) i o 0 y in_places in_o so_far (ap f (place_at (length o) i 0 in_o) ∙ at))

pub placed_fault : (f : ℕ → Result ℤ KernelFault) (s i : ℕ) (o : List ℤ) (e : KernelFault) → s ≡ length o → i < length o → WrittenTo f (places (length o)) i o → f i ≡ Err e → each f (places s) ≡ Err e
placed_fault f s i o e same in_o so_far at =
    let in_places : i < length (places (length o)) = omega (arith, length_places (length o)) in
    ap (λ n. each f (places n)) same ∙ written_fault f (places (length o)) i o 0 e in_places so_far (ap f (place_at (length o) i 0 in_o) ∙ at)

pub placed_all : (f : ℕ → Result ℤ KernelFault) (s i : ℕ) (o : List ℤ) → s ≡ length o → length o ≤ i → i ≤ length o → WrittenTo f (places (length o)) i o → each f (places s) ≡ Ok o
placed_all f s i o same le ge so_far =
    ap (λ n. each f (places n)) same ∙ written_all f (places (length o)) i o (omega (arith, length_places (length o))) (omega arith) so_far

-- the last tokens up to a place are a part of the list
pub last_is : (w n : ℕ) (xs : List ℤ) → n < length xs → between (n + 1 - w) (n + 1) xs ≡ last w (take (n + 1) xs)
last_is w n xs lt =
    let len : length (take (n + 1) xs) ≡ n + 1 = omega (arith, length-take {A = ℤ}) in
    between_is xs (n + 1 - w) (n + 1) ∙ ap (λ k. drop (k - w) (take (n + 1) xs)) (sym len)

-- a window is a part of the list
pub window_is : (n k : ℕ) (xs : List ℤ) → between n (n + k) xs ≡ window xs n k
window_is n k xs = ap (λ m. take m (drop n xs)) (omega arith)

-- one more step of a running value
pub running_more : {A : Type 0} (f : ℤ → A → Result ℤ KernelFault) (a b : ℤ) (xs : List A) (i : ℕ) (d : A) (r : Result ℤ KernelFault) → i < length xs → running f a (drop i xs) ≡ r → f a (get_or xs i d) ≡ Ok b → running f b (drop (i + 1) xs) ≡ r
running_more f a b xs i d r lt so_far at =
    sym (at_drop_more (running f a) xs i d lt ∙ ap (λ v. onward v (λ c. running f c (drop (i + 1) xs))) at) ∙ so_far

pub running_fault : {A : Type 0} (f : ℤ → A → Result ℤ KernelFault) (a : ℤ) (e : KernelFault) (xs : List A) (i : ℕ) (d : A) (r : Result ℤ KernelFault) → i < length xs → running f a (drop i xs) ≡ r → f a (get_or xs i d) ≡ Err e → Err e ≡ r
running_fault f a e xs i d r lt so_far at =
    sym (at_drop_more (running f a) xs i d lt ∙ ap (λ v. onward v (λ c. running f c (drop (i + 1) xs))) at) ∙ so_far

pub running_all : {A : Type 0} (f : ℤ → A → Result ℤ KernelFault) (a : ℤ) (xs : List A) (i : ℕ) (r : Result ℤ KernelFault) → length xs ≤ i → running f a (drop i xs) ≡ r → Ok a ≡ r
running_all f a xs i r le so_far = sym (at_drop_all (running f a) xs i le) ∙ so_far

-- the only element, once written
pub only_written : {A : Type 0} (o : List A) (y : A) → length o ≡ 1 → set o 0 y ≡ y ∷ []
only_written [] y len = absurd (omega arith)
only_written (x ∷ []) y len = refl
only_written (x ∷ z ∷ zs) y len = absurd (omega arith)

-- a place counted from the end
pub from_the_end : (xs : List ℤ) (i n : ℕ) → n ≡ length xs → i < n → get_or (reverse xs) i (pos 0) ≡ get_or xs (n - 1 - i) (pos 0)
from_the_end xs i n len lt = get_or-reverse xs i (pos 0) (omega arith) ∙ ap (λ k. get_or xs k (pos 0)) (omega arith)

-- a number that is a token is that token
bounded_is : (z y : ℤ) → bounded z ≡ Ok y → y ≡ z
bounded_is z y = same (is_token z)
  where
    same : (b : Bool) → cond b (Ok z) (Err (fault 1)) ≡ Ok y → y ≡ z
    same true e = cc
    same false e = cc

-- a step further
next_step : (start step : ℤ) (n : ℕ) → 1 ≤ n → (start +ℤ (pos (n - 1) *ℤ step)) +ℤ step ≡ start +ℤ (pos n *ℤ step)
next_step start step n le =
    let n_is : pos n ≡ suc_ℤ (pos (n - 1)) = ap pos (omega arith) in
    let times : pos n *ℤ step ≡ (pos (n - 1) *ℤ step) +ℤ step = ap (λ (m : ℤ). m *ℤ step) n_is ∙ suc_ℤ-*ℤ (pos (n - 1)) step in
    regroup start (pos (n - 1) *ℤ step) step ∙ ap (λ (m : ℤ). start +ℤ m) (sym times)
  where
    regroup : (a b c : ℤ) → (a +ℤ b) +ℤ c ≡ a +ℤ (b +ℤ c)
    regroup a b c = omega (arith, ints)

flat_map_step : {A : Type 0} (f : A → List ℤ) (xs : List A) (i : ℕ) (d : A) → i < length xs → flat_map f (take (i + 1) xs) ≡ flat_map f (take i xs) ++ f (get_or xs i d)
flat_map_step f xs i d lt =
    ap (flat_map f) (take_more xs i d lt)
    ∙ (flat_map-append f (take i xs) (get_or xs i d ∷ []) ∙ ap (λ (l : List ℤ). flat_map f (take i xs) ++ l) (append-nil (f (get_or xs i d))))

-- one more piece of a list that is written piece by piece
pub pieces_more : {A : Type 0} (f : A → List ℤ) (xs : List A) (i k : ℕ) (o piece : List ℤ) (d : A)
    → i < length xs → take (i * k) o ≡ flat_map f (take i xs) → piece ≡ f (get_or xs i d) → length piece ≡ k → (i + 1) * k ≤ length o
    → take ((i + 1) * k) (put_mid (i * k) ((i + 1) * k - i * k) o piece) ≡ flat_map f (take (i + 1) xs)
pieces_more f xs i k o piece d lt so_far is len le =
    let within : i * k ≤ length o = omega arith in
    let end : (i + 1) * k ≡ i * k + length piece = omega arith in
    take-put_mid (i * k) ((i + 1) * k - i * k) o piece ((i + 1) * k) end within
    ∙ (ap (λ (l : List ℤ). l ++ piece) so_far ∙ (ap (λ (l : List ℤ). flat_map f (take i xs) ++ l) is ∙ sym (flat_map_step f xs i d lt)))

-- a list that is written piece by piece, at its end
pub pieces_all : {A : Type 0} (f : A → List ℤ) (xs : List A) (i k : ℕ) (o : List ℤ) → length xs ≤ i → length o ≤ i * k → take (i * k) o ≡ flat_map f (take i xs) → o ≡ flat_map f xs
pieces_all f xs i k o le len so_far = sym (take_all (i * k) o len) ∙ (so_far ∙ ap (flat_map f) (take_all i xs le))

pub piece_length : (i k : ℕ) (o : List ℤ) → (i + 1) * k ≤ length o → length (take ((i + 1) * k - i * k) (drop (i * k) o)) ≡ k
piece_length i k o le =
    let within : (i + 1) * k - i * k ≤ length (drop (i * k) o) = omega (arith, length-drop {A = ℤ}) in
    length-take-le ((i + 1) * k - i * k) (drop (i * k) o) within ∙ omega arith

below_bound : {A : Type 0} (n : ℕ) (a b : A) → n < 2 ^ 63 → cond (nat_lt n (2 ^ 63)) a b ≡ a
below_bound n a b lt = rw (lt-ltb n (2 ^ 63) lt)

pub bounded_fits : (z : ℤ) → FitsSigned w64 z → bounded z ≡ Ok z
bounded_fits (pos n) h = below_bound n (Ok (pos n)) (Err (fault 1)) h.sfits
bounded_fits (negsuc n) h = below_bound n (Ok (negsuc n)) (Err (fault 1)) h.sfits

-- the token of a ramp at a place
abbrev pub ramp_at : ℤ → ℤ → ℕ → Result ℤ KernelFault
ramp_at start step n = bounded (start +ℤ (pos n *ℤ step))

pub no_step : (start step : ℤ) → start ≡ start +ℤ (pos 0 *ℤ step)
no_step start step = omega (arith, ints)

pub ramp_first : (start step : ℤ) → FitsSigned w64 start → ramp_at start step 0 ≡ Ok start
ramp_first start step h = ap bounded (sym (no_step start step)) ∙ bounded_fits start h

pub ramp_next : (start step token : ℤ) (n : ℕ) → 1 ≤ n → token ≡ start +ℤ (pos (n - 1) *ℤ step) → bounded (token +ℤ step) ≡ ramp_at start step n
ramp_next start step token n le here = ap (λ (m : ℤ). bounded (m +ℤ step)) here ∙ ap bounded (next_step start step n le)

pub ramp_here : (start step y : ℤ) (n : ℕ) → ramp_at start step n ≡ Ok y → y ≡ start +ℤ (pos (n + 1 - 1) *ℤ step)
ramp_here start step y n at = bounded_is (start +ℤ (pos n *ℤ step)) y at ∙ ap (λ k. start +ℤ (pos k *ℤ step)) (omega arith)
