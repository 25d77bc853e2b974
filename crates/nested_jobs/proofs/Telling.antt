-- Answers stay those that tasks may have, and the outcome of a job that is closed is one that it may have.
use Rattle.std.proofs.Common.{◌≡◌, ℕ, suc, ◌-◌, ◌<◌, ◌↔◌, true, Option, Some, None, List, [], ◌∷◌, length, refl, sym, ◌∙◌, ap, subst, ⊎_elim, arith}
use Rattle.nested_jobs.specs.Rules.{Place, Task, Work, Call, Rules}
use Rattle.nested_jobs.specs.Marks.{Mark, Free, Busy, Open, Done, Marks, put, answer_of, values}
use Rattle.nested_jobs.specs.Steps.{is_settled, is_quiet}
use Rattle.nested_jobs.specs.Journals.{Entry, Claim, Finish, State, start_mark, start, finish_of, after, state_from, state, task_of, Answered, AnsweredFrom, Allowed, Legal, LegalFrom, IsEnded}
use Rattle.nested_jobs.specs.Meanings.{Meanings, MayAnswer, Sound, Settled, Lawful, Meant, among}
use Rattle.nested_jobs.specs.Invariants.{Nested}
use Rattle.nested_jobs.proofs.Places.{cons_ne, tail_is, head_is, put_at, put_other, done_by, open_is, one_open}
use Rattle.nested_jobs.proofs.Turns.{OpensKeep, BeginsKeep, ClosesKeep, task_is, claimed_keeps, finished_keeps}
use Rattle.nested_jobs.proofs.Nesting.{below_all, grown, deep, of_open, of_busy, top_is, opens_nested, begins_nested, ends_nested, closes_nested, start_nested}
use Rattle.nested_jobs.proofs.Running.{journal_keeps}
use Rattle.nested_jobs.proofs.Ending.{ended_done}

module _ {J W A : Type 0} (rs : Rules J W A) (rank : J → ℕ) (law : Lawful rs rank) (top : J) (m : Meanings J W A) (meant : Meant rs m) (is_fit : m.fit top) (depth : ℕ) (enough : rank top < depth) where
  -- the levels left below the items of a job at this place
  abbrev pub below : Place → ℕ
  below p = depth - suc (length p)

  pub record Tells (n : Marks J A) : Type 0 where
    pub nested : Nested rs top n
    pub fits : (p : Place) (j : J) → n p ≡ Open j → m.fit j
    pub sound : (p : Place) (j : J) → n p ≡ Open j → Sound rs m (below p) j (values n p)
    pub at_top : (a : A) → n [] ≡ Done a → m.means depth top a

  -- what a write has to bring: an answer that the item's task may have, and a well-made job without answers
  record Brings (n : Marks J A) (a : Place) (y : Mark J A) : Type 0 where
    fit : (d : J) → y ≡ Open d → m.fit d
    none : (d : J) → y ≡ Open d → (k : ℕ) → answer_of (n (k ∷ a)) ≡ None
    answer : (i : ℕ) (p : Place) (b : A) → a ≡ i ∷ p → y ≡ Done b → (j : J) → n p ≡ Open j → (t : Task J W) × (rs.rule j (values n p) i ≡ Some t) × MayAnswer m (below p) t b
    whole : (b : A) → a ≡ [] → y ≡ Done b → m.means depth top b

  write_tells : (n : Marks J A) (a : Place) (y : Mark J A) → Tells n → answer_of (n a) ≡ None → Nested rs top (put n a y) → Brings n a y → Tells (put n a y)
  write_tells n a y h free nested brings = record {
    nested = nested;
    fits = λ p j o. ⊎_elim (λ t. brings.fit j (sym t.1 ∙ o)) (λ t. h.fits p j (sym t.1 ∙ o)) (put_at n a y p);
    sound = λ p j o i b e. ⊎_elim (λ t. absurd (fresh p j i b t.0 (sym t.1 ∙ o) e)) (λ t. old p j i b (sym t.1 ∙ o) e) (put_at n a y p);
    at_top = λ b e. ⊎_elim (λ t. brings.whole b t.0 (sym t.1 ∙ e)) (λ t. h.at_top b (sym t.1 ∙ e)) (put_at n a y []);
  }
    where
      fresh : (p : Place) (j : J) (i : ℕ) (b : A) → a ≡ p → y ≡ Open j → values (put n a y) p i ≡ Some b → ⊥
      fresh p j i b e o v =
          let none : answer_of (n (i ∷ p)) ≡ None = subst (λ (z : Place). answer_of (n (i ∷ z)) ≡ None) e (brings.none j o i) in
          let same : put n a y (i ∷ p) ≡ n (i ∷ p) = put_other n a y (i ∷ p) (λ f. cons_ne i p (sym f ∙ e)) in
          let some : answer_of (n (i ∷ p)) ≡ Some b = sym (ap answer_of same) ∙ v in
          cc

      old : (p : Place) (j : J) (i : ℕ) (b : A) → n p ≡ Open j → values (put n a y) p i ≡ Some b → (t : Task J W) × (rs.rule j (values (put n a y) p) i ≡ Some t) × MayAnswer m (below p) t b
      old p j i b o v =
          let was : (t : Task J W) × (rs.rule j (values n p) i ≡ Some t) × MayAnswer m (below p) t b =
          ⊎_elim (λ u. brings.answer i p b u.0 (done_by y b (sym (ap answer_of u.1) ∙ v)) j o) (λ u. h.sound p j o i b (sym (ap answer_of u.1) ∙ v)) (put_at n a y (i ∷ p)) in
          (was.0, law.grows j (values n p) (values (put n a y) p) (grown n a y free p) i was.0 was.1, was.2)

  opens_tell : OpensKeep rs Tells
  opens_tell n i p d h free job =
      write_tells n (i ∷ p) (Open d) h (ap answer_of free) (opens_nested rs rank law top n i p d h.nested free job)
      (record {
        fit = λ c e. subst m.fit (open_is {A = A} d c e) (meant.calls (below p) job.job (values n p) (h.fits p job.job job.is_open) (h.sound p job.job job.is_open) i d job.has_task);
        none = λ c e k. ap answer_of (h.nested.fresh k (i ∷ p) free);
        answer = λ k q b e f. absurd (cc);
        whole = λ b e f. absurd (cc);
      })

  begins_tell : BeginsKeep rs Tells
  begins_tell n i p work h free job =
      write_tells n (i ∷ p) Busy h (ap answer_of free) (begins_nested rs rank law top n i p work h.nested free job)
      (record {
        fit = λ c e. absurd (cc);
        none = λ c e k. absurd (cc);
        answer = λ k q b e f. absurd (cc);
        whole = λ b e f. absurd (cc);
      })

  pub ends_tell : (n : Marks J A) (i : ℕ) (p : Place) (v : A) → Tells n → n (i ∷ p) ≡ Busy → ((work : W) → task_of rs n (i ∷ p) ≡ Some (Work work) → m.answers work v) → Tells (put n (i ∷ p) (Done v))
  ends_tell n i p v h busy may =
      let w = of_busy rs rank law top n i p h.nested busy in
      write_tells n (i ∷ p) (Done v) h (ap answer_of busy) (ends_nested rs rank law top n i p v h.nested busy)
      (record {
        fit = λ c e. absurd (cc);
        none = λ c e k. absurd (cc);
        answer = λ k q b e f j o.
            let same : v ≡ b = cc in
            let here : n p ≡ Open j = ap n (tail_is i k p q e) ∙ o in
            let r : rs.rule j (values n p) i ≡ Some (Work w.0) = subst (λ (z : J). rs.rule z (values n p) i ≡ Some (Work w.0)) (one_open n p w.1.job j w.1.is_open here) w.1.has_task in (
              Work w.0,
              subst (λ (z : ℕ). rs.rule j (values n q) z ≡ Some (Work w.0)) (head_is i k p q e) (subst (λ (z : Place). rs.rule j (values n z) i ≡ Some (Work w.0)) (tail_is i k p q e) r),
              subst (m.answers w.0) same (may w.0 (task_is rs n i p (Work w.0) w.1)),
            );
        whole = λ b e f. absurd (cc);
      })

  -- a quiet job is settled
  pub quiet_settled : (n : Marks J A) (j : J) (p : Place) → Tells n → n p ≡ Open j → is_quiet rs n j p ≡ true → Settled rs m (below p) j (values n p)
  quiet_settled n j p h o quiet = record { sound = h.sound p j o; whole = λ i t r. go i t r (n (i ∷ p)) refl }
    where
      settled : (i : ℕ) (t : Task J W) → rs.rule j (values n p) i ≡ Some t → is_settled (n (i ∷ p)) (rs.rule j (values n p) i) ≡ true
      settled i t r = below_all (rs.count j (values n p)) (λ k. is_settled (n (k ∷ p)) (rs.rule j (values n p) k)) quiet i (law.counts j (values n p) i t r)

      go : (i : ℕ) (t : Task J W) → rs.rule j (values n p) i ≡ Some t → (x : Mark J A) → n (i ∷ p) ≡ x → (a : A) × (values n p i ≡ Some a)
      go i t r (Done a) e = (a, ap answer_of e)
      go i t r Free e = let u : is_settled {A = A} Free (Some t) ≡ true = subst (λ (z : Option (Task J W)). is_settled {A = A} Free z ≡ true) r (subst (λ (x : Mark J A). is_settled x (rs.rule j (values n p) i) ≡ true) e (settled i t r)) in absurd (cc)
      go i t r Busy e = let u : is_settled {A = A} Busy (rs.rule j (values n p) i) ≡ true = subst (λ (x : Mark J A). is_settled x (rs.rule j (values n p) i) ≡ true) e (settled i t r) in absurd (cc)
      go i t r (Open d) e = let u : is_settled {A = A} (Open d) (rs.rule j (values n p) i) ≡ true = subst (λ (x : Mark J A). is_settled x (rs.rule j (values n p) i) ≡ true) e (settled i t r) in absurd (cc)

  -- its outcome is an answer that it may have
  outcome_means : (n : Marks J A) (j : J) (p : Place) → Tells n → n p ≡ Open j → is_quiet rs n j p ≡ true → m.means (depth - length p) j (rs.outcome j (values n p))
  outcome_means n j p h o quiet =
      let l = deep rs rank law top n p j h.nested o in
      let same : suc (below p) ≡ depth - length p = omega arith in
      subst (λ (z : ℕ). m.means z j (rs.outcome j (values n p))) same (meant.settles (below p) j (values n p) (h.fits p j o) (quiet_settled n j p h o quiet))

  pub closes_tell : ClosesKeep rs Tells
  closes_tell n p j h o quiet =
      let v : A = rs.outcome j (values n p) in
      let means = outcome_means n j p h o quiet in
      write_tells n p (Done v) h (ap answer_of o) (closes_nested rs rank law top n p j h.nested o quiet)
      (record {
        fit = λ c e. absurd (cc);
        none = λ c e k. absurd (cc);
        answer = λ i q b e f c r.
            let up = of_open rs rank law top n i q j h.nested (ap n (sym e) ∙ o) in
            let same : v ≡ b = cc in
            let level : depth - length p ≡ below q = ap (λ (z : Place). depth - length z) e in (
              Call j,
              subst (λ (z : J). rs.rule z (values n q) i ≡ Some (Call j)) (one_open n q up.job c up.is_open r) up.has_task,
              subst (λ (z : A). m.means (below q) j z) same (subst (λ (z : ℕ). m.means z j v) level means),
            );
        whole = λ b e f.
            let same : v ≡ b = cc in
            let is : j ≡ top = top_is rs rank law top n j h.nested (ap n (sym e) ∙ o) in
            let level : depth - length p ≡ depth = (let l : length p ≡ 0 = ap length e in omega arith) in
            subst (λ (z : A). m.means depth top z) same (subst (λ (z : J). m.means depth z v) is (subst (λ (z : ℕ). m.means z j v) level means));
      })

  start_tells : Tells (start_mark top)
  start_tells = record {
    nested = start_nested rs rank law top;
    fits = λ p j o. fits p j o;
    sound = λ p j o i a e. absurd (cc);
    at_top = λ a e. absurd (cc);
  }
    where
      fits : (p : Place) (j : J) → start_mark {A = A} top p ≡ Open j → m.fit j
      fits [] j o = subst m.fit (open_is {A = A} top j o) is_fit
      fits (i ∷ p) j o = absurd (cc)

  after_tells : (s : State J A) (e : Entry A) → Tells s.marks → Answered rs m.answers s e → Tells (after rs s e).marks
  after_tells s (Claim w a) h ok = claimed_keeps rs Tells opens_tell begins_tell s.marks a h
  after_tells s (Finish w v) h ok = go (s.running w) refl
    where
      go : (r : Option Place) → s.running w ≡ r → Tells (finish_of rs s w v r).marks
      go None e = h
      go (Some []) e = h
      go (Some (i ∷ p)) e = finished_keeps rs Tells closes_tell s.marks i p v h (λ busy. ends_tell s.marks i p v h busy (λ work is. ok (i ∷ p) work e is))

  from_tells : (s : State J A) (es : List (Entry A)) → Tells s.marks → AnsweredFrom rs m.answers s es → Tells (state_from rs s es).marks
  from_tells s [] h ok = h
  from_tells s (e ∷ es) h ok = from_tells (after rs s e) es (after_tells s e h ok.0) ok.1

  pub journal_tells : (es : List (Entry A)) → AnsweredFrom rs m.answers (start top) es → Tells (state rs top es).marks
  journal_tells es ok = from_tells (start top) es start_tells ok

module _ {J W A : Type 0} (rs : Rules J W A) (answers : W → A → Type 0) (workers : ℕ) where
  pub allowed_answered : (s : State J A) (e : Entry A) → Allowed rs answers workers s e → Answered rs answers s e
  allowed_answered s (Claim w a) ok = tt
  allowed_answered s (Finish w v) ok = λ p work e is.
      let here : Some ok.place ≡ Some p = sym ok.runs ∙ e in
      let same : ok.place ≡ p = cc in
      let task : Some (Work ok.work) ≡ Some (Work work) = sym ok.is_work ∙ (ap (task_of rs s.marks) same ∙ is) in
      let one : ok.work ≡ work = cc in
      subst (λ (z : W). answers z v) one ok.answered

  -- finishes of a legal journal bring answers that their work may have
  pub legal_answered : (s : State J A) (es : List (Entry A)) → LegalFrom rs answers workers s es → AnsweredFrom rs answers s es
  legal_answered s [] ok = tt
  legal_answered s (e ∷ es) ok = (allowed_answered s e ok.0, legal_answered (after rs s e) es ok.1)

-- every legal journal that has ended leaves the top job done with an answer that it may have
pub ended_tells : {J W A : Type 0} (rs : Rules J W A) (rank : J → ℕ) (law : Lawful rs rank) (top : J) (m : Meanings J W A) → Meant rs m → m.fit top → (depth : ℕ) → rank top < depth
    → (workers : ℕ) (es : List (Entry A)) → Legal rs m.answers workers top es → IsEnded rs workers (state rs top es) → (a : A) × ((state rs top es).marks [] ≡ Done a) × m.means depth top a
ended_tells rs rank law top m meant fit depth enough workers es legal ended =
    let done = ended_done rs rank law top workers (state rs top es) (journal_keeps rs rank law top workers m.answers es legal) ended in
    let tells = journal_tells rs rank law top m meant fit depth enough es (legal_answered rs m.answers workers (start top) es legal) in
    (done.0, done.1, tells.at_top done.0 done.1)

-- each relation is that among its own pairs, so that what holds of all tellings holds of all relations
pub among_own : {X Y : Type 0} (R : X → Y → Type 0) (x : X) (y : Y) → R x y ↔ among (λ (t : (x : X) × (y : Y) × R x y). (t.0, t.1)) x y
among_own R x y = (λ r. ((x, y, r), refl), λ t. let e : t.0.0 ≡ x = ap (λ z. z.0) t.1 in let f : t.0.1 ≡ y = ap (λ z. z.1) t.1 in subst (R x) f (subst (λ (z : _). R z t.0.1) e t.0.2))
