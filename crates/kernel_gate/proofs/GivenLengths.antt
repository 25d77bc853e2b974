-- How long what the kernels give is.
use Rattle.std.proofs.Common.{◌≡◌, ℕ, zero, suc, ◌+◌, ◌*◌, ◌/◌, ◌%◌, ◌<◌, ◌==◌, ◌&&◌, nat_le, Bool, true, false, ℤ, pos, List, [], ◌∷◌, length, map, Option, Some, None, Result, Ok, Err, IfOk, refl, ap, sym, ◌∙◌, subst, arith, length-append}
use Rattle.std.proofs.Math.Nat.{suc-mul, mul_comm}
use Rattle.std.proofs.lemmas.Bool.{and_parts, eqb-true, leb-true}
use Rattle.std.proofs.lemmas.List.{length-map, length-replicate}
use Rattle.std.proofs.lemmas.List.FromFn.{length-range_with_len, length-map-range_with_len}
use Rattle.std.specs.Prelude.{◌-◌, slice_get, slice_index_or, zip, replicate, reverse, take, count_by, find, int_le, unsigned_abs, ◌+ℤ◌, ◌-ℤ◌, ◌*ℤ◌}
use Rattle.std.specs.List.{AllByRecursion, flat_map}
use Rattle.kernel_gate.specs.Laws.{GivesLengths, HasLengths}
use Rattle.kernel_gate.specs.Value.{Answer, Gives, Kernel, port}
use Rattle.kernel_gate.specs.Signed.{Counts, unnamed}
use Rattle.kernel_gate.specs.Tokens.{bounded, before, dot_product, each, last, mean_of, places, quotient, token, total, window}
use Rattle.kernel_gate.specs.Kernels.{if_shape, if_value, shaped, one_output, one_token, pairs, pairs_shaped, pass_answer, pass_signature}
use Rattle.kernel_gate.specs.Elements.{clamped, dup_signature, dup_answer, gain_signature, gain_answer, add_signature, add_answer, sub_signature, sub_answer, mul_signature, mul_answer, div_signature, div_answer, min_signature, min_answer, max_signature, max_answer, clamp_signature, clamp_answer, threshold_signature, threshold_answer}
use Rattle.kernel_gate.specs.Sums.{sum_signature, sum_answer, mean_signature, mean_answer, dot_signature, dot_answer, fir_signature, fir_answer, moving_signature, moving_answer}
use Rattle.kernel_gate.specs.Rearranged.{column, up_signature, up_answer, down_signature, down_answer, ramp_signature, ramp_answer, transpose_signature, transpose_answer}
use Rattle.kernel_gate.specs.Counted.{found_token, in_bin, in_the_middle, larger, median_signature, median_answer, histogram_signature, histogram_answer, count_above_signature, count_above_answer}
use Rattle.kernel_gate.specs.Configured.{at_place, found_set, output_and_set, read_param_signature, read_param_answer, pick_signature, pick_answer, spread_signature, spread_answer}
use Rattle.kernel_gate.specs.Limits.{most_median_tokens, most_moving_width}
use Rattle.kernel_gate.specs.Table.{Row, no_row, table, the_signatures, the_value}
use Rattle.kernel_gate.specs.declared.fault.KernelFault.{KernelFault}

-- ---- words

in_shape : (fits : Bool) (a : Answer) (lens : List ℕ) (sets : ℕ) → (fits ≡ true → HasLengths lens sets a) → HasLengths lens sets (if_shape fits a)
in_shape true a lens sets holds = holds refl
in_shape false a lens sets holds = tt

of_value : (taken : Bool) (a : Answer) (lens : List ℕ) (sets : ℕ) → (taken ≡ true → HasLengths lens sets a) → HasLengths lens sets (if_value taken a)
of_value true a lens sets holds = holds refl
of_value false a lens sets holds = tt

of_shape : (r s : ℕ) (a : Answer) (lens : List ℕ) (sets : ℕ) → (r ≡ s → HasLengths lens sets a) → HasLengths lens sets (shaped r s a)
of_shape r s a lens sets holds = in_shape (r == s) a lens sets (λ e. holds (eqb-true r s e))

one : (o : List ℤ) (n : ℕ) → length o ≡ n → HasLengths (n ∷ []) 0 (Gives (o ∷ []) [])
one o n e = (ap (λ m. m ∷ []) e, refl)

one_long : (r : Result (List ℤ) KernelFault) (n : ℕ) → IfOk r (λ o. length o ≡ n) → HasLengths (n ∷ []) 0 (one_output r)
one_long (Ok o) n e = one o n e
one_long (Err f) n e = tt

token_long : (r : Result ℤ KernelFault) (n : ℕ) → n ≡ 1 → HasLengths (n ∷ []) 0 (one_token r)
token_long (Ok t) n e = one (t ∷ []) n (sym e)
token_long (Err f) n e = tt

before_long : (r : Result ℤ KernelFault) (rest : Result (List ℤ) KernelFault) (n : ℕ) → IfOk rest (λ o. length o ≡ n) → IfOk (before r rest) (λ o. length o ≡ suc n)
before_long (Ok y) (Ok zs) n e = ap suc e
before_long (Ok y) (Err f) n e = tt
before_long (Err f) rest n e = tt

each_long : {A : Type 0} (f : A → Result ℤ KernelFault) (xs : List A) → IfOk (each f xs) (λ o. length o ≡ length xs)
each_long f [] = refl
each_long f (x ∷ xs) = before_long (f x) (each f xs) (length xs) (each_long f xs)

one_each : {A : Type 0} (f : A → Result ℤ KernelFault) (xs : List A) (n : ℕ) → length xs ≡ n → HasLengths (n ∷ []) 0 (one_output (each f xs))
one_each f xs n e = one_long (each f xs) n (let P : ℕ → Type 0 = λ m. IfOk (each f xs) (λ (o : List ℤ). length o ≡ m) in subst P e (each_long f xs))

zip_long : (xs ys : List ℤ) (n : ℕ) → length xs ≡ n → length ys ≡ n → length (zip xs ys) ≡ n
zip_long [] ys n e f = e
zip_long (x ∷ xs) [] n e f = absurd (omega arith)
zip_long (x ∷ xs) (y ∷ ys) zero e f = absurd (omega arith)
zip_long (x ∷ xs) (y ∷ ys) (suc n) e f = ap suc (zip_long xs ys n (omega arith) (omega arith))

in_pairs : (inputs : List (List ℤ)) (n : ℕ) (a : Answer) → (length (pairs inputs) ≡ n → HasLengths (n ∷ []) 0 a) → HasLengths (n ∷ []) 0 (pairs_shaped inputs (n ∷ []) a)
in_pairs inputs n a holds = in_shape ((length (port inputs 0) == n) && (length (port inputs 1) == n)) a (n ∷ []) 0
    (λ e. let both = and_parts (length (port inputs 0) == n) (length (port inputs 1) == n) e in
    holds (zip_long (port inputs 0) (port inputs 1) n (eqb-true (length (port inputs 0)) n both.0) (eqb-true (length (port inputs 1)) n both.1)))

each_pair : (f : ℤ × ℤ → Result ℤ KernelFault) (inputs : List (List ℤ)) (n : ℕ) → HasLengths (n ∷ []) 0 (pairs_shaped inputs (n ∷ []) (one_output (each f (pairs inputs))))
each_pair f inputs n = in_pairs inputs n (one_output (each f (pairs inputs))) (λ e. one_each f (pairs inputs) n e)

map_pair : (f : ℤ × ℤ → ℤ) (inputs : List (List ℤ)) (n : ℕ) → HasLengths (n ∷ []) 0 (pairs_shaped inputs (n ∷ []) (Gives (map f (pairs inputs) ∷ []) []))
map_pair f inputs n = in_pairs inputs n (Gives (map f (pairs inputs) ∷ []) []) (λ e. one (map f (pairs inputs)) n (length-map (pairs inputs) f ∙ e))

flat_long : {A : Type 0} (f : A → List ℤ) (m : ℕ) → ((x : A) → length (f x) ≡ m) → (xs : List A) → length (flat_map f xs) ≡ length xs * m
flat_long f m same [] = omega arith
flat_long f m same (x ∷ xs) =
    let again = flat_long f m same xs in
    let both = length-append (f x) (flat_map f xs) in
    let here = same x in
    let more = suc-mul (length xs) m in
    omega arith

-- ---- the lengths that are asked for

no_length : (P : List ℕ → Type 0) → P [] → (lens : List ℕ) → length lens ≡ 0 → P lens
no_length P holds [] e = holds
no_length P holds (n ∷ lens) e = absurd (omega arith)

one_length : (P : List ℕ → Type 0) → ((n : ℕ) → P (n ∷ [])) → (lens : List ℕ) → length lens ≡ 1 → P lens
one_length P holds [] e = absurd (omega arith)
one_length P holds (n ∷ []) e = holds n
one_length P holds (n ∷ m ∷ lens) e = absurd (omega arith)

two_lengths : (P : List ℕ → Type 0) → ((n m : ℕ) → P (n ∷ m ∷ [])) → (lens : List ℕ) → length lens ≡ 2 → P lens
two_lengths P holds [] e = absurd (omega arith)
two_lengths P holds (n ∷ []) e = absurd (omega arith)
two_lengths P holds (n ∷ m ∷ []) e = holds n m
two_lengths P holds (n ∷ m ∷ k ∷ lens) e = absurd (omega arith)

module _ (k : Kernel) (c : Counts) where
  -- one output and no parameter
  from_one : c.outs ≡ 1 → c.sets_max ≡ 0 → ((args : List ℤ) (inputs : List (List ℤ)) (n : ℕ) → HasLengths (n ∷ []) 0 (k args inputs (n ∷ []) 0)) → GivesLengths k c
  from_one outs most holds args inputs lens sets long low high =
      let none : 0 ≡ sets = omega arith in
      let P : ℕ → Type 0 = λ s. HasLengths lens s (k args inputs lens s) in
      subst P none (one_length (λ l. HasLengths l 0 (k args inputs l 0)) (holds args inputs) lens (long ∙ outs))

-- ---- the kernels

pass_long : GivesLengths pass_answer pass_signature.counts
unfolding pass_answer
pass_long = from_one pass_answer pass_signature.counts refl refl (λ args inputs n. of_shape (length (port inputs 0)) n (Gives (port inputs 0 ∷ []) []) (n ∷ []) 0 (one (port inputs 0) n))

dup_long : GivesLengths dup_answer dup_signature.counts
unfolding dup_answer
dup_long args inputs lens sets long low high =
    let none : 0 ≡ sets = omega arith in
    let P : ℕ → Type 0 = λ s. HasLengths lens s (dup_answer args inputs lens s) in
    subst P none (two_lengths (λ l. HasLengths l 0 (dup_answer args inputs l 0)) (λ n m.
    of_shape (length (port inputs 0)) n (shaped (length (port inputs 0)) m (Gives (port inputs 0 ∷ port inputs 0 ∷ []) [])) (n ∷ m ∷ []) 0
    (λ e. of_shape (length (port inputs 0)) m (Gives (port inputs 0 ∷ port inputs 0 ∷ []) []) (n ∷ m ∷ []) 0
    (λ f. (rw (← e, ← f) refl, refl)))) lens long)

gain_long : GivesLengths gain_answer gain_signature.counts
unfolding gain_answer
gain_long = from_one gain_answer gain_signature.counts refl refl (λ args inputs n.
    of_shape (length (port inputs 0)) n (one_output (each (λ t. bounded (t *ℤ token args 0)) (port inputs 0))) (n ∷ []) 0
    (one_each (λ t. bounded (t *ℤ token args 0)) (port inputs 0) n))

add_long : GivesLengths add_answer add_signature.counts
unfolding add_answer
add_long = from_one add_answer add_signature.counts refl refl (λ args inputs n. each_pair (λ p. bounded (p.0 +ℤ p.1)) inputs n)

sub_long : GivesLengths sub_answer sub_signature.counts
unfolding sub_answer
sub_long = from_one sub_answer sub_signature.counts refl refl (λ args inputs n. each_pair (λ p. bounded (p.0 -ℤ p.1)) inputs n)

mul_long : GivesLengths mul_answer mul_signature.counts
unfolding mul_answer
mul_long = from_one mul_answer mul_signature.counts refl refl (λ args inputs n. each_pair (λ p. bounded (p.0 *ℤ p.1)) inputs n)

div_long : GivesLengths div_answer div_signature.counts
unfolding div_answer
div_long = from_one div_answer div_signature.counts refl refl (λ args inputs n. each_pair (λ p. quotient p.0 p.1) inputs n)

min_long : GivesLengths min_answer min_signature.counts
unfolding min_answer
min_long = from_one min_answer min_signature.counts refl refl (λ args inputs n. map_pair _ inputs n)

max_long : GivesLengths max_answer max_signature.counts
unfolding max_answer
max_long = from_one max_answer max_signature.counts refl refl (λ args inputs n. map_pair _ inputs n)

clamp_long : GivesLengths clamp_answer clamp_signature.counts
unfolding clamp_answer
clamp_long = from_one clamp_answer clamp_signature.counts refl refl (λ args inputs n.
    of_shape (length (port inputs 0)) n (if_value (int_le (token args 0) (token args 1)) (Gives (map (clamped (token args 0) (token args 1)) (port inputs 0) ∷ []) [])) (n ∷ []) 0
    (λ e. of_value (int_le (token args 0) (token args 1)) (Gives (map (clamped (token args 0) (token args 1)) (port inputs 0) ∷ []) []) (n ∷ []) 0
    (λ taken. one (map (clamped (token args 0) (token args 1)) (port inputs 0)) n (length-map (port inputs 0) (clamped (token args 0) (token args 1)) ∙ e))))

sum_long : GivesLengths sum_answer sum_signature.counts
unfolding sum_answer
sum_long = from_one sum_answer sum_signature.counts refl refl (λ args inputs n. of_shape n 1 (one_token (total (port inputs 0))) (n ∷ []) 0 (token_long (total (port inputs 0)) n))

mean_long : GivesLengths mean_answer mean_signature.counts
unfolding mean_answer
mean_long = from_one mean_answer mean_signature.counts refl refl (λ args inputs n.
    in_shape ((n == 1) && nat_le 1 (length (port inputs 0))) (one_token (mean_of (port inputs 0))) (n ∷ []) 0
    (λ e. token_long (mean_of (port inputs 0)) n (eqb-true n 1 (and_parts (n == 1) (nat_le 1 (length (port inputs 0))) e).0)))

dot_long : GivesLengths dot_answer dot_signature.counts
unfolding dot_answer
dot_long = from_one dot_answer dot_signature.counts refl refl (λ args inputs n.
    in_shape ((length (port inputs 0) == length (port inputs 1)) && (n == 1)) (one_token (dot_product (port inputs 0) (port inputs 1))) (n ∷ []) 0
    (λ e. token_long (dot_product (port inputs 0) (port inputs 1)) n (eqb-true n 1 (and_parts (length (port inputs 0) == length (port inputs 1)) (n == 1) e).1)))

fir_long : GivesLengths fir_answer fir_signature.counts
unfolding fir_answer
fir_long = from_one fir_answer fir_signature.counts refl refl (λ args inputs n.
    let taps = λ (m : ℕ). dot_product args (reverse (window (port inputs 0) m (length args))) in
    in_shape (nat_le (length args) (length (port inputs 0)) && (n == length (port inputs 0) - length args + 1)) (one_output (each taps (places n))) (n ∷ []) 0
    (λ e. one_each taps (places n) n (length-range_with_len 0 n)))

up_long : GivesLengths up_answer up_signature.counts
unfolding up_answer
up_long = from_one up_answer up_signature.counts refl refl (λ args inputs n.
    let r = length (port inputs 0) in
    in_shape (nat_le 1 r && nat_le r n && (n % r == 0)) _ (n ∷ []) 0 (λ e.
    let parts = and_parts (nat_le 1 r && nat_le r n) (n % r == 0) e in
    let some : 0 < r = let h = leb-true 1 r (and_parts (nat_le 1 r) (nat_le r n) parts.0).0 in omega arith in
    let even : n % r ≡ 0 = eqb-true (n % r) 0 parts.1 in
    let long = flat_long (λ (t : ℤ). replicate (n / r) t) (n / r) (λ t. length-replicate (n / r) t) (port inputs 0) in
    one (flat_map (λ (t : ℤ). replicate (n / r) t) (port inputs 0)) n (let whole : r * (n / r) ≡ n = omega arith in long ∙ whole)))

down_long : GivesLengths down_answer down_signature.counts
unfolding down_answer
down_long = from_one down_answer down_signature.counts refl refl (λ args inputs n.
    let r = length (port inputs 0) in
    let first = λ (m : ℕ). token (port inputs 0) (m * (r / n)) in
    in_shape (nat_le 1 n && nat_le n r && (r % n == 0)) (Gives (map first (places n) ∷ []) []) (n ∷ []) 0
    (λ e. one (map first (places n)) n (length-map-range_with_len first 0 n)))

ramp_long : GivesLengths ramp_answer ramp_signature.counts
unfolding ramp_answer
ramp_long = from_one ramp_answer ramp_signature.counts refl refl (λ args inputs n. one_each _ (places n) n (length-range_with_len 0 n))

transpose_long : GivesLengths transpose_answer transpose_signature.counts
unfolding transpose_answer
transpose_long = from_one transpose_answer transpose_signature.counts refl refl (λ args inputs n.
    let rows = unsigned_abs (token args 0) in
    let cols = unsigned_abs (token args 1) in
    of_shape (length (port inputs 0)) n _ (n ∷ []) 0 (λ e.
    of_value (int_le (pos 1) (token args 0) && int_le (pos 1) (token args 1) && (rows * cols == length (port inputs 0))) _ (n ∷ []) 0 (λ f.
    let whole = eqb-true (rows * cols) (length (port inputs 0)) (and_parts (int_le (pos 1) (token args 0) && int_le (pos 1) (token args 1)) (rows * cols == length (port inputs 0)) f).1 in
    let long = flat_long (column (port inputs 0) rows cols) rows (λ c. length-map-range_with_len (λ a. token (port inputs 0) (a * cols + c)) 0 rows) (places cols) in
    one (flat_map (column (port inputs 0) rows cols) (places cols)) n
    (long ∙ ap (λ m. m * rows) (length-range_with_len 0 cols) ∙ mul_comm cols rows ∙ whole ∙ e))))

token_found : (o : Option ℤ) (n : ℕ) → n ≡ 1 → HasLengths (n ∷ []) 0 (found_token o)
token_found (Some t) n e = one (t ∷ []) n (sym e)
token_found None n e = tt

median_long : GivesLengths median_answer median_signature.counts
unfolding median_answer
median_long = from_one median_answer median_signature.counts refl refl (λ args inputs n.
    let r = length (port inputs 0) in
    in_shape ((n == 1) && (r % 2 == 1) && nat_le r most_median_tokens) (found_token (find (in_the_middle (port inputs 0)) (port inputs 0))) (n ∷ []) 0
    (λ e. token_found (find (in_the_middle (port inputs 0)) (port inputs 0)) n
    (eqb-true n 1 (and_parts (n == 1) (r % 2 == 1) (and_parts ((n == 1) && (r % 2 == 1)) (nat_le r most_median_tokens) e).0).0)))

moving_long : GivesLengths moving_answer moving_signature.counts
unfolding moving_answer
moving_long = from_one moving_answer moving_signature.counts refl refl (λ args inputs n.
    let mean = λ (m : ℕ). mean_of (last (unsigned_abs (token args 0)) (take (m + 1) (port inputs 0))) in
    let narrow = int_le (pos 1) (token args 0) && int_le (token args 0) (pos most_moving_width) in
    of_shape (length (port inputs 0)) n (if_value narrow (one_output (each mean (places n)))) (n ∷ []) 0
    (λ e. of_value narrow (one_output (each mean (places n))) (n ∷ []) 0 (λ taken. one_each mean (places n) n (length-range_with_len 0 n))))

threshold_long : GivesLengths threshold_answer threshold_signature.counts
unfolding threshold_answer
threshold_long = from_one threshold_answer threshold_signature.counts refl refl (λ args inputs n.
    of_shape (length (port inputs 0)) n _ (n ∷ []) 0 (λ e. one _ n (length-map (port inputs 0) _ ∙ e)))

histogram_long : GivesLengths histogram_answer histogram_signature.counts
unfolding histogram_answer
histogram_long = from_one histogram_answer histogram_signature.counts refl refl (λ args inputs n.
    let bin = λ (b : ℕ). pos (count_by (in_bin (token args 0) (token args 1) b) (port inputs 0)) in
    in_shape (nat_le 1 n) (if_value (int_le (pos 1) (token args 1)) (Gives (map bin (places n) ∷ []) [])) (n ∷ []) 0
    (λ e. of_value (int_le (pos 1) (token args 1)) (Gives (map bin (places n) ∷ []) []) (n ∷ []) 0 (λ taken. one (map bin (places n)) n (length-map-range_with_len bin 0 n))))

count_above_long : GivesLengths count_above_answer count_above_signature.counts
unfolding count_above_answer
count_above_long = from_one count_above_answer count_above_signature.counts refl refl (λ args inputs n.
    let count = pos (larger (port inputs 0) (token args 0)) in
    of_shape n 1 (Gives ((count ∷ []) ∷ []) []) (n ∷ []) 0 (λ e. one (count ∷ []) n (sym e)))

read_param_long : GivesLengths read_param_answer read_param_signature.counts
unfolding read_param_answer
read_param_long args inputs lens sets long low high = no_length (λ l. HasLengths l sets (read_param_answer args inputs l sets))
    (of_shape (length (port inputs 0)) sets (Gives [] (port inputs 0)) [] sets (λ e. (refl, e))) lens long

set_found : (o : Option ℤ) → HasLengths [] 1 (found_set o)
set_found (Some v) = (refl, refl)
set_found None = tt

pick_long : GivesLengths pick_answer pick_signature.counts
unfolding pick_answer
pick_long args inputs lens sets long low high =
    let only : 1 ≡ sets = omega arith in
    let P : ℕ → Type 0 = λ s. HasLengths lens s (pick_answer args inputs lens s) in
    subst P only (no_length (λ l. HasLengths l 1 (pick_answer args inputs l 1))
    (of_shape (length (port inputs 0)) 1 (found_set (at_place args (token (port inputs 0) 0))) [] 1 (λ e. set_found (at_place args (token (port inputs 0) 0)))) lens long)

both_long : (o : List ℤ) (r : Result ℤ KernelFault) (n : ℕ) → length o ≡ n → HasLengths (n ∷ []) 1 (output_and_set o r)
both_long o (Ok v) n e = (ap (λ m. m ∷ []) e, refl)
both_long o (Err f) n e = tt

spread_long : GivesLengths spread_answer spread_signature.counts
unfolding spread_answer
spread_long args inputs lens sets long low high =
    let only : 1 ≡ sets = omega arith in
    let P : ℕ → Type 0 = λ s. HasLengths lens s (spread_answer args inputs lens s) in
    subst P only (one_length (λ l. HasLengths l 1 (spread_answer args inputs l 1)) (λ n.
    in_shape (nat_le 1 (length (port inputs 0)) && (n == length (port inputs 0))) _ (n ∷ []) 1
    (λ e. both_long (port inputs 0) _ n (sym (eqb-true n (length (port inputs 0)) (and_parts (nat_le 1 (length (port inputs 0))) (n == length (port inputs 0)) e).1)))) lens long)

-- ---- all of them

abbrev RowLong : Row → Type 0
RowLong r = GivesLengths r.answer r.signature.counts

at_row : (rows : List Row) (d : Row) → AllByRecursion RowLong rows → (kind : ℕ) (c : Counts) → slice_get (unnamed (map (λ (r : Row). r.signature) rows)) kind ≡ Some c → GivesLengths (slice_index_or rows kind d).answer c
at_row [] d all kind c e = absurd (cc)
at_row (r ∷ rows) d all zero c e = let same : r.signature.counts ≡ c = cc in let P : Counts → Type 0 = λ x. GivesLengths r.answer x in subst P same all.0
at_row (r ∷ rows) d all (suc kind) c e = at_row rows d all.1 kind c e

all_rows : AllByRecursion RowLong table
all_rows = (
  pass_long,
  (
    dup_long,
    (
      gain_long,
      (
        add_long,
        (
          sub_long,
          (
            mul_long,
            (
              div_long,
              (
                min_long,
                (
                  max_long,
                  (
                    clamp_long,
                    (
                      sum_long,
                      (
                        mean_long,
                        (
                          dot_long,
                          (
                            fir_long,
                            (
                              up_long,
                              (
                                down_long,
                                (
                                  ramp_long,
                                  (transpose_long, (median_long, (moving_long, (threshold_long, (histogram_long, (count_above_long, (read_param_long, (pick_long, (spread_long, tt))))))))),
                                ),
                              ),
                            ),
                          ),
                        ),
                      ),
                    ),
                  ),
                ),
              ),
            ),
          ),
        ),
      ),
    ),
  ),
)

pub lengths_told : (kind : ℕ) (c : Counts) → slice_get (unnamed the_signatures) kind ≡ Some c → GivesLengths (the_value kind) c
unfolding the_value
lengths_told kind c e = at_row table no_row all_rows kind c e
