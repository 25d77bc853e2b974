-- The marks of a job, cut at its compilation: before it those of the configuration actors, after it those of the nodes.
use Rattle.std.proofs.Common.{◌≡◌, ℕ, zero, suc, ◌+◌, ◌-◌, ◌<◌, Bool, true, List, ◌∷◌, ◌++◌, length, get_or, set, refl, sym, ap, ◌∙◌, arith}
use Rattle.std.proofs.Math.ListN.{get_or-append}
use Rattle.std.proofs.Math.Seq.{get_or-append_seam, set-append_seam}
use Rattle.std.proofs.lemmas.Bool.{and_from}
use Rattle.std.proofs.lemmas.List.{get_or-append-add, set-append_left, set-append_right}
use Rattle.nested_jobs.specs.Steps.{all_below}

-- functions that agree everywhere are one
pub same_function : {A B : Type 0} (f h : A → B) → ((a : A) → f a ≡ h a) → f ≡ h
same_function f h each = λ i a. each a i

-- ---- lists cut at an element

module _ {T : Type 0} (before : List T) (x : T) (after : List T) (d : T) where
  pub read_before : (i : ℕ) → i < length before → get_or (before ++ x ∷ after) i d ≡ get_or before i d
  read_before i below = get_or-append before (x ∷ after) d i below

  pub read_seam : (k : ℕ) → length before ≡ k → get_or (before ++ x ∷ after) k d ≡ x
  read_seam k at = ap (λ i. get_or (before ++ x ∷ after) i d) (sym at) ∙ get_or-append_seam before x after d

  pub read_after : (k n : ℕ) → length before + 1 ≡ k → get_or (before ++ x ∷ after) (k + n) d ≡ get_or after n d
  read_after k n at =
      let e : k + n ≡ length before + suc n = omega arith in
      ap (λ i. get_or (before ++ x ∷ after) i d) e ∙ get_or-append-add before (x ∷ after) (suc n) d

module _ {T : Type 0} (before : List T) (x : T) (after : List T) (y : T) where
  pub put_before : (i : ℕ) → i < length before → set (before ++ x ∷ after) i y ≡ set before i y ++ x ∷ after
  put_before i below = set-append_left before (x ∷ after) i y below

  pub put_seam : (k : ℕ) → length before ≡ k → set (before ++ x ∷ after) k y ≡ before ++ y ∷ after
  put_seam k at = ap (λ i. set (before ++ x ∷ after) i y) (sym at) ∙ set-append_seam before x after y

  pub put_after : (k n : ℕ) → length before + 1 ≡ k → set (before ++ x ∷ after) (k + n) y ≡ before ++ x ∷ set after n y
  put_after k n at =
      let e : k + n - length before ≡ suc n = omega arith in
      set-append_right before (x ∷ after) (length before) (k + n) y refl (omega arith) ∙ ap (λ i. before ++ set (x ∷ after) i y) e

-- ---- numbers below

pub all_from : (n : ℕ) (f : ℕ → Bool) → ((i : ℕ) → i < n → f i ≡ true) → all_below n f ≡ true
all_from zero f each = refl
all_from (suc n) f each = and_from (f n) (all_below n f) (each n (omega arith)) (all_from n f (λ i below. each i (omega arith)))
