-- A job that a step closes was settled, and its answer is its outcome.
use Rattle.std.proofs.Common.{◌≡◌, ◌≢◌, ℕ, ◌<◌, Option, Some, None, [], ◌∷◌, refl, sym, ◌∙◌, ap, subst, ⊎_elim}
use Rattle.nested_jobs.specs.Rules.{Place, Values, Rules}
use Rattle.nested_jobs.specs.Marks.{Mark, Busy, Open, Done, Marks, put, answer_of, values}
use Rattle.nested_jobs.specs.Journals.{Entry, Claim, Finish, State, finish_of, after, Answered}
use Rattle.nested_jobs.specs.Meanings.{Meanings, Settled, Lawful, Meant}
use Rattle.nested_jobs.specs.Laws.{ClosesAs}
use Rattle.nested_jobs.proofs.Places.{cons_ne, put_at, put_other, one_open}
use Rattle.nested_jobs.proofs.Turns.{ClosesKeep, finished_keeps}
use Rattle.nested_jobs.proofs.Nesting.{of_open}
use Rattle.nested_jobs.proofs.Running.{claimed_stays}
use Rattle.nested_jobs.proofs.Telling.{Tells, below, ends_tell, quiet_settled, closes_tell}

-- the answers of a job's items after a write at none of them
pub values_apart : {J A : Type 0} (m : Marks J A) (a : Place) (y : Mark J A) (q : Place) → ((k : ℕ) → a ≢ k ∷ q) → values (put m a y) q ≡ values m q
values_apart m a y q ne =
    let at : (k : ℕ) → values (put m a y) q k ≡ values m q k = λ k. ap answer_of (put_other m a y (k ∷ q) (ne k)) in
    λ x k. at k x

module _ {J W A : Type 0} (rs : Rules J W A) (rank : J → ℕ) (law : Lawful rs rank) (top : J) (ms : Meanings J W A) (meant : Meant rs ms) (is_fit : ms.fit top) (depth : ℕ) (enough : rank top < depth) where
  abbrev TellsSo : Marks J A → Type 0
  TellsSo n = Tells rs rank law top ms meant is_fit depth enough n

  abbrev left_below : Place → ℕ
  left_below p = below rs rank law top ms meant is_fit depth enough p

  abbrev ClosedSo : Marks J A → Place → J → A → Type 0
  ClosedSo n p j a = ClosesAs rs ms (left_below p) n p j a

  module _ (m : Marks J A) where
    -- what closings keep, where these are the marks before the step
    record Closing (n : Marks J A) : Type 0 where
      tells : TellsSo n
      was : (q : Place) (c : J) → n q ≡ Open c → m q ≡ Open c
      closed : (q : Place) (c : J) (b : A) → m q ≡ Open c → n q ≡ Done b → ClosedSo n q c b

    closes : ClosesKeep rs Closing
    closes n p j h o quiet = record {
      tells = closes_tell rs rank law top ms meant is_fit depth enough n p j h.tells o quiet;
      was = λ q c e. ⊎_elim
          (λ t. let no : y ≡ Open c = sym t.1 ∙ e in absurd (cc))
          (λ t. h.was q c (sym t.1 ∙ e))
          (put_at n p y q);
      closed = λ q c b was e. ⊎_elim
          (λ t. here q c b t.0 was (sym t.1 ∙ e))
          (λ t. other q c b was (sym t.1 ∙ e))
          (put_at n p y q);
    }
      where
        y : Mark J A
        y = Done (rs.outcome j (values n p))

        same : values (put n p y) p ≡ values n p
        same = values_apart n p y p (λ k e. cons_ne k p (sym e))

        own : ClosedSo (put n p y) p j (rs.outcome j (values n p))
        own = record {
          settled = subst (λ (v : Values A). Settled rs ms (left_below p) j v) (sym same) (quiet_settled rs rank law top ms meant is_fit depth enough n j p h.tells o quiet);
          outcome_is = ap (rs.outcome j) (sym same);
        }

        here : (q : Place) (c : J) (b : A) → p ≡ q → m q ≡ Open c → y ≡ Done b → ClosedSo (put n p y) q c b
        here q c b e was done =
            let answer : rs.outcome j (values n p) ≡ b = cc in
            let job : j ≡ c = one_open m q j c (h.was q j (ap n (sym e) ∙ o)) was in
            subst (λ (z : A). ClosedSo (put n p y) q c z) answer (subst (λ (z : J). ClosedSo (put n p y) q z (rs.outcome j (values n p))) job (subst (λ (z : Place). ClosedSo (put n p y) z j (rs.outcome j (values n p))) e own))

        other : (q : Place) (c : J) (b : A) → m q ≡ Open c → n q ≡ Done b → ClosedSo (put n p y) q c b
        other q c b was done =
            let still : values (put n p y) q ≡ values n q = values_apart n p y q (λ k e. let up = of_open rs rank law top n k q j h.tells.nested (ap n (sym e) ∙ o) in let open_ : n q ≡ Open up.job = up.is_open in cc) in
            let before = h.closed q c b was done in
            record {
              settled = subst (λ (v : Values A). Settled rs ms (left_below q) c v) (sym still) before.settled;
              outcome_is = before.outcome_is ∙ ap (rs.outcome c) (sym still);
            }

    begins : TellsSo m → Closing m
    begins tells = record { tells = tells; was = λ q c e. e; closed = λ q c b was e. absurd (cc) }

    ends : (i : ℕ) (p : Place) (v : A) → m (i ∷ p) ≡ Busy → TellsSo (put m (i ∷ p) (Done v)) → Closing (put m (i ∷ p) (Done v))
    ends i p v busy tells = record {
      tells = tells;
      was = λ q c e. ⊎_elim (λ t. let no : ◌≡◌ {A = Mark J A} (Done v) (Open c) = sym t.1 ∙ e in absurd (cc)) (λ t. sym t.1 ∙ e) (put_at m (i ∷ p) (Done v) q);
      closed = λ q c b was e. ⊎_elim
          (λ t. let no : m q ≡ Busy = ap m (sym t.0) ∙ busy in absurd (cc))
          (λ t. let no : m q ≡ Done b = sym t.1 ∙ e in absurd (cc))
          (put_at m (i ∷ p) (Done v) q);
    }

  pub closed_settled : (s : State J A) (e : Entry A) (p : Place) (j : J) (a : A) → TellsSo s.marks → Answered rs ms.answers s e → s.marks p ≡ Open j → (after rs s e).marks p ≡ Done a → ClosedSo (after rs s e).marks p j a
  closed_settled s (Claim w b) p j a h ok o done = let still = claimed_stays rs s.marks b p (Open j) (λ f. cc) o in absurd (cc)
  closed_settled s (Finish w v) p j a h ok o done = go (s.running w) refl done
    where
      go : (r : Option Place) → s.running w ≡ r → (finish_of rs s w v r).marks p ≡ Done a → ClosedSo (finish_of rs s w v r).marks p j a
      go None e f = absurd (cc)
      go (Some []) e f = absurd (cc)
      go (Some (i ∷ q)) e f =
          (finished_keeps rs (Closing s.marks) (closes s.marks) s.marks i q v (begins s.marks h)
          (λ busy. ends s.marks i q v busy (ends_tell rs rank law top ms meant is_fit depth enough s.marks i q v h busy (λ work is. ok (i ∷ q) work e is)))).closed p j a o f
