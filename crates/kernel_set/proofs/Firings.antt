-- What a kernel has to show of its firing.
use Rattle.std.proofs.Common.{◌≡◌, ◌≢◌, ℕ, ◌≤◌, List, [], ◌∷◌, length, slice_set, suc, take, drop, map, refl, sym, ap, ◌∙◌, arith, Bool, true, false, ◌&&◌}
use Rattle.std.specs.Prelude.{ℤ, Result, Ok, Err}
use Rattle.std.proofs.lemmas.Bool.Decides.{nat_tests}
use Rattle.std.proofs.lemmas.List.{nil_from_length, take-append-le}
use Rattle.std.proofs.Math.Seq.{take-length}
use Rattle.split_block.specs.View.{refit}
use Rattle.kernel_gate.specs.Value.{Answer, Gives, Faults, FrameView, told_by, with_output, lengths, port}
use Rattle.kernel_gate.specs.Kernels.{shaped, one_output, one_token, size, pairs_shaped, if_shape, if_value}
use Rattle.kernel_gate.specs.Tokens.{each, prepend}
use Rattle.kernel_gate.specs.declared.fault.KernelFault.{KernelFault}
use Rattle.kernel_set.specs.Written.{Writes, alone}
use Rattle.kernel_set.proofs.Steps.{only_written}

-- a list of the length that was there is written as it is
refit_same : (old w : List ℤ) → length w ≡ length old → refit old w ≡ w
refit_same old w e =
    let le : length old ≤ length w = omega arith in
    take-append-le (length old) w (drop (length w) old) le ∙ (ap (λ n. take n w) (sym e) ∙ take-length w)

-- the length of an output, as a kernel is given it
pub size_at : (lists : List (List ℤ)) (n : ℕ) → size (lengths lists) n ≡ length (port lists n)
size_at [] n = refl
size_at (x ∷ xs) Prim.Native.Nat.zero = refl
size_at (x ∷ xs) (Prim.Native.Nat.suc n) = size_at xs n

pub shaped_same : (r s t : ℕ) (a : Answer) → t ≡ s → r ≡ s → shaped r t a ≡ a
shaped_same r s t a e same = grind (arith, nat_tests)

pub shaped_not : (r s t : ℕ) (a : Answer) → t ≡ s → r ≢ s → shaped r t a ≡ Faults 3
shaped_not r s t a e differ = grind (arith, nat_tests)

pub pairs_fit : (inputs : List (List ℤ)) (lens : List ℕ) (n : ℕ) (a : Answer) → size lens 0 ≡ n → length (port inputs 0) ≡ n → length (port inputs 1) ≡ n → pairs_shaped inputs lens a ≡ a
pairs_fit inputs lens n a s first second = grind (arith, nat_tests)

pub pairs_not_first : (inputs : List (List ℤ)) (lens : List ℕ) (n : ℕ) (a : Answer) → size lens 0 ≡ n → length (port inputs 0) ≢ n → pairs_shaped inputs lens a ≡ Faults 3
pairs_not_first inputs lens n a s first = grind (arith, nat_tests)

pub pairs_not_second : (inputs : List (List ℤ)) (lens : List ℕ) (n : ℕ) (a : Answer) → size lens 0 ≡ n → length (port inputs 1) ≢ n → pairs_shaped inputs lens a ≡ Faults 3
pairs_not_second inputs lens n a s second = grind (arith, nat_tests)

pub taken : (b : Bool) (a : Answer) → b ≡ true → if_value b a ≡ a
taken b a h = rw h

pub not_taken : (b : Bool) (a : Answer) → b ≡ false → if_value b a ≡ Faults 4
not_taken b a h = rw h

pub both : (a b : Bool) → a ≡ true → b ≡ true → (a && b) ≡ true
both a b h k = rw (h, k)

pub fitting : (b : Bool) (a : Answer) → b ≡ true → if_shape b a ≡ a
fitting b a h = rw h

pub not_fitting : (b : Bool) (a : Answer) → b ≡ false → if_shape b a ≡ Faults 3
not_fitting b a h = rw h

-- tokens without faults
pub each_total : {A : Type 0} (f : A → ℤ) (xs : List A) → each (λ x. Ok (f x)) xs ≡ Ok (map f xs)
each_total f [] = refl
each_total f (x ∷ xs) = ap (prepend (f x ∷ [])) (each_total f xs)

-- the outputs of a frame with one, after a write of its length
pub one_written : (outs : List (List ℤ)) (w : List ℤ) → length outs ≡ 1 → length w ≡ length (port outs 0) → slice_set outs 0 (refit (port outs 0) w) ≡ w ∷ []
one_written outs w len e = only_written outs (refit (port outs 0) w) len ∙ ap (λ (v : List ℤ). v ∷ []) (refit_same (port outs 0) w e)

-- a kernel with one output, whose tokens were written or refused
pub tells_one : (f : FrameView) (w : List ℤ) (r : Result (Unit {0}) KernelFault) (v : Result (List ℤ) KernelFault) (a : Answer)
    → length f.outputs ≡ 1 → length f.sets ≤ 0 → length w ≡ length (port f.outputs 0) → a ≡ one_output v → Writes v r w
    → told_by (with_output f 0 w) r ≡ a
tells_one f w (Ok x) v a outs sets len is wrote =
    sym
    (is ∙ (ap one_output wrote ∙ (ap (λ (o : List (List ℤ)). Gives o []) (sym (one_written f.outputs w outs len)) ∙ ap (λ (s : List ℤ). Gives (slice_set f.outputs 0 (refit (port f.outputs 0) w)) s) (sym (nil_from_length f.sets (omega arith))))))
tells_one f w (Err e) v a outs sets len is wrote = sym (is ∙ ap one_output wrote)

-- a kernel with one output of one token, which was written or refused
pub tells_token : (f : FrameView) (w : List ℤ) (r : Result (Unit {0}) KernelFault) (v : Result ℤ KernelFault) (a : Answer)
    → length f.outputs ≡ 1 → length f.sets ≤ 0 → length w ≡ length (port f.outputs 0) → a ≡ one_token v → Writes (alone v) r w
    → told_by (with_output f 0 w) r ≡ a
tells_token f w r v a outs sets len is wrote = tells_one f w r (alone v) a outs sets len (is ∙ as_output v) wrote
  where
    as_output : (t : Result ℤ KernelFault) → one_token t ≡ one_output (alone t)
    as_output (Ok t) = refl
    as_output (Err e) = refl
