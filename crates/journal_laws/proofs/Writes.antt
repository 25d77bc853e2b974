-- Marks after one write, and where the steps of a journal write.
use Rattle.std.proofs.Common.{◌≡◌, ◌≢◌, ◌⊎◌, ℕ, ◌<◌, Bool, true, false, ◌&&◌, cond, eqb, Option, Some, [], ◌∷◌, length, refl, ◌∙◌, ap, subst, inl, inr, ⊎_elim, arith}
use Rattle.std.proofs.lemmas.Bool.{eqb-true, eq-eqb}
use Rattle.nested_jobs.specs.Rules.{Place, Rules, Task}
use Rattle.nested_jobs.specs.Marks.{Mark, Free, Busy, Open, Done, Marks, same, put, answer_of, values}
use Rattle.nested_jobs.specs.Steps.{opened, task_at, task_in}

both_true : (a b : Bool) → (a && b) ≡ true → (a ≡ true) × (b ≡ true)
both_true true b h = (refl, h)
both_true false b h = absurd (cc)

same_refl : (a : Place) → same a a ≡ true
same_refl [] = refl
same_refl (x ∷ xs) = rw (eq-eqb x x refl) (same_refl xs)

same_true : (a b : Place) → same a b ≡ true → a ≡ b
same_true [] [] h = refl
same_true [] (y ∷ ys) h = absurd (cc)
same_true (x ∷ xs) [] h = absurd (cc)
same_true (x ∷ xs) (y ∷ ys) h =
    let t = both_true (eqb x y) (same xs ys) h in
    let e : x ≡ y = eqb-true x y t.0 in
    let f : xs ≡ ys = same_true xs ys t.1 in
    cc

pub cons_ne : (i : ℕ) (p : Place) → (i ∷ p) ≢ p
cons_ne i p h = let e = ap length h in omega arith

module _ {J A : Type 0} where
  pub put_at : (marks : Marks J A) (a : Place) (m : Mark J A) (b : Place) → ((a ≡ b) × (put marks a m b ≡ m)) ⊎ ((a ≢ b) × (put marks a m b ≡ marks b))
  put_at marks a m b =
      elim (same a b) as (λ s. same a b ≡ s → ((a ≡ b) × (cond s m (marks b) ≡ m)) ⊎ ((a ≢ b) × (cond s m (marks b) ≡ marks b))) [
        | true ↦ λ e. inl (same_true a b e, refl)
        | false ↦ λ e. inr ((λ f. let t : same a b ≡ true = subst (λ (x : Place). same a x ≡ true) f (same_refl a) in cc), refl)
      ]
      refl

  pub put_here : (marks : Marks J A) (a : Place) (m : Mark J A) → put marks a m a ≡ m
  put_here marks a m = ⊎_elim (λ t. t.1) (λ t. absurd (t.0 refl)) (put_at marks a m a)

  pub put_other : (marks : Marks J A) (a : Place) (m : Mark J A) (b : Place) → a ≢ b → put marks a m b ≡ marks b
  put_other marks a m b ne = ⊎_elim (λ t. absurd (ne t.0)) (λ t. t.1) (put_at marks a m b)

  pub done_by : (m : Mark J A) (a : A) → answer_of m ≡ Some a → m ≡ Done a
  done_by Free a h = absurd (cc)
  done_by Busy a h = absurd (cc)
  done_by (Open j) a h = absurd (cc)
  done_by (Done b) a h = cc

module _ {J W A : Type 0} (rs : Rules J W A) where
  -- what has a task stands in an open job
  in_open : (x : Mark J A) (v : ℕ → Option A) (i : ℕ) (t : Task J W) → task_in rs x v i ≡ Some t → (j : J) × (x ≡ Open j) × (rs.rule j v i ≡ Some t)
  in_open Free v i t e = absurd (cc)
  in_open Busy v i t e = absurd (cc)
  in_open (Open j) v i t e = (j, refl, e)
  in_open (Done a) v i t e = absurd (cc)

  pub task_open : (m : Marks J A) (i : ℕ) (p : Place) (t : Task J W) → task_at rs m i p ≡ Some t → (j : J) × (m p ≡ Open j) × (rs.rule j (values m p) i ≡ Some t)
  task_open m i p t e = in_open (m p) (values m p) i t e

  -- the way to a place is opened at no deeper place
  pub opened_deeper : (m : Marks J A) (p c : Place) → length p < length c → opened rs m p c ≡ m c
  opened_deeper m [] c lt = refl
  opened_deeper m (i ∷ p) c lt = put_other (opened rs m p) (i ∷ p) _ c (λ e. let l = ap length e in omega arith) ∙ opened_deeper m p c (omega arith)
