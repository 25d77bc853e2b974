-- Marks after one write, read at any place.
use Rattle.std.proofs.Common.{◌≡◌, ◌≢◌, ◌⊎◌, ℕ, Bool, true, false, ◌&&◌, cond, eqb, Some, List, [], ◌∷◌, ◌++◌, length, refl, sym, ◌∙◌, ap, subst, inl, inr, ⊎_elim, arith, length-append}
use Rattle.std.proofs.lemmas.Bool.{eqb-true, eq-eqb}
use Rattle.nested_jobs.specs.Rules.{Place}
use Rattle.nested_jobs.specs.Marks.{Mark, Free, Busy, Open, Done, Marks, same, put, answer_of}

pub both_true : (a b : Bool) → (a && b) ≡ true → (a ≡ true) × (b ≡ true)
both_true true b h = (refl, h)
both_true false b h = absurd (cc)

pub same_refl : (a : Place) → same a a ≡ true
same_refl [] = refl
same_refl (x ∷ xs) = rw (eq-eqb x x refl) (same_refl xs)

pub same_true : (a b : Place) → same a b ≡ true → a ≡ b
same_true [] [] h = refl
same_true [] (y ∷ ys) h = absurd (cc)
same_true (x ∷ xs) [] h = absurd (cc)
same_true (x ∷ xs) (y ∷ ys) h =
    let t = both_true (eqb x y) (same xs ys) h in
    let e : x ≡ y = eqb-true x y t.0 in
    let f : xs ≡ ys = same_true xs ys t.1 in
    cc

pub cons_ne : (i : ℕ) (p : Place) → (i ∷ p) ≢ p
cons_ne i p h = let e = ap length h in omega arith

pub tail_is : (k i : ℕ) (q p : Place) → (k ∷ q) ≡ (i ∷ p) → q ≡ p
tail_is k i q p h = cc

pub head_is : (k i : ℕ) (q p : Place) → (k ∷ q) ≡ (i ∷ p) → k ≡ i
head_is k i q p h = cc

-- two places of one depth on one way are one
pub same_tail : (xs ys : List ℕ) (p q : Place) → length p ≡ length q → xs ++ p ≡ ys ++ q → p ≡ q
same_tail [] [] p q l e = e
same_tail [] (y ∷ ys) p q l e = let a = ap length e in let b = length-append ys q in absurd (omega arith)
same_tail (x ∷ xs) [] p q l e = let a = ap length e in let b = length-append xs p in absurd (omega arith)
same_tail (x ∷ xs) (y ∷ ys) p q l e = let f : xs ++ p ≡ ys ++ q = cc in same_tail xs ys p q l f

module _ {J A : Type 0} where
  pub put_at : (marks : Marks J A) (a : Place) (m : Mark J A) (b : Place) → ((a ≡ b) × (put marks a m b ≡ m)) ⊎ ((a ≢ b) × (put marks a m b ≡ marks b))
  put_at marks a m b =
      elim (same a b) as (λ s. same a b ≡ s → ((a ≡ b) × (cond s m (marks b) ≡ m)) ⊎ ((a ≢ b) × (cond s m (marks b) ≡ marks b))) [
        | true ↦ λ e. inl (same_true a b e, refl)
        | false ↦ λ e. inr ((λ f. let t : same a b ≡ true = subst (λ (x : Place). same a x ≡ true) f (same_refl a) in cc), refl)
      ]
      refl

  pub put_here : (marks : Marks J A) (a : Place) (m : Mark J A) → put marks a m a ≡ m
  put_here marks a m = ⊎_elim (λ t. t.1) (λ t. absurd (t.0 refl)) (put_at marks a m a)

  pub put_other : (marks : Marks J A) (a : Place) (m : Mark J A) (b : Place) → a ≢ b → put marks a m b ≡ marks b
  put_other marks a m b ne = ⊎_elim (λ t. absurd (ne t.0)) (λ t. t.1) (put_at marks a m b)

  -- a mark that is put back changes nothing
  pub put_back : (marks : Marks J A) (a : Place) (m : Mark J A) → marks a ≡ m → put marks a m ≡ marks
  put_back marks a m e =
      let at : (b : Place) → put marks a m b ≡ marks b = λ b. ⊎_elim (λ t. t.1 ∙ (sym e ∙ ap marks t.0)) (λ t. t.1) (put_at marks a m b) in
      λ k b. at b k

  pub done_by : (m : Mark J A) (a : A) → answer_of m ≡ Some a → m ≡ Done a
  done_by Free a h = absurd (cc)
  done_by Busy a h = absurd (cc)
  done_by (Open j) a h = absurd (cc)
  done_by (Done b) a h = cc

  pub open_is : (j k : J) → ◌≡◌ {A = Mark J A} (Open j) (Open k) → j ≡ k
  open_is j k h = cc

  pub one_open : (m : Marks J A) (p : Place) (j k : J) → m p ≡ Open j → m p ≡ Open k → j ≡ k
  one_open m p j k e f = open_is j k (sym e ∙ f)

pub place_cases : (a b : Place) → (a ≡ b) ⊎ (a ≢ b)
place_cases a b =
    elim (same a b) as (λ s. same a b ≡ s → (a ≡ b) ⊎ (a ≢ b)) [
      | true ↦ λ e. inl (same_true a b e)
      | false ↦ λ e. inr (λ f. let t : same a b ≡ true = subst (λ (x : Place). same a x ≡ true) f (same_refl a) in cc)
    ]
    refl
