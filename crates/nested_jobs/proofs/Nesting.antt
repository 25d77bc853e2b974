-- Jobs stay nested, whatever the journal.
use Rattle.std.proofs.Common.{◌≡◌, ◌≢◌, ◌⊎◌, ℕ, zero, suc, ◌+◌, ◌<◌, ◌≤◌, Bool, true, Option, Some, None, List, [], ◌∷◌, length, refl, sym, ◌∙◌, ap, subst, ⊎_elim, arith}
use Rattle.nested_jobs.specs.Rules.{Place, Task, Work, Call, Rules}
use Rattle.nested_jobs.specs.Marks.{Mark, Free, Busy, Open, Done, Marks, put, answer_of, values}
use Rattle.nested_jobs.specs.Steps.{opened, claimed, is_settled, all_below, is_quiet, finished}
use Rattle.nested_jobs.specs.Journals.{Entry, Claim, Finish, State, start_mark, start, finish_of, after, state_from, state}
use Rattle.nested_jobs.specs.Meanings.{Within, Lawful}
use Rattle.nested_jobs.specs.Invariants.{InJob, Fits, Nested}
use Rattle.nested_jobs.proofs.Places.{both_true, cons_ne, tail_is, put_at, put_here, put_other, one_open}
use Rattle.nested_jobs.proofs.Turns.{OpensKeep, BeginsKeep, ClosesKeep, opened_keeps, claimed_keeps, finished_keeps}

pub below_all : (n : ℕ) (f : ℕ → Bool) → all_below n f ≡ true → (i : ℕ) → i < n → f i ≡ true
below_all zero f h i lt = absurd (omega arith)
below_all (suc n) f h i lt =
    let t = both_true (f n) (all_below n f) h in
    ⊎_elim (λ (e : i ≡ n). ap f e ∙ t.0) (λ (l : i < n). below_all n f t.1 i l) (last i n lt)
  where
    last : (i n : ℕ) → i < suc n → (i ≡ n) ⊎ (i < n)
    last i n h = grind arith

-- an item that isn't claimed, or done
abbrev pub IsIdle : {J A : Type 0} → Mark J A → Type 0
IsIdle {J} {A} x = (x ≢ Busy) × ((d : J) → x ≢ Open d)

-- an answer more
pub grown : {J A : Type 0} (m : Marks J A) (a : Place) (y : Mark J A) → answer_of (m a) ≡ None → (p : Place) → Within (values m p) (values (put m a y) p)
grown {J} {A} m a y none p i b e =
    ⊎_elim
    (λ t. let same : answer_of (m a) ≡ answer_of (m (i ∷ p)) = ap (λ (x : Place). answer_of (m x)) t.0 in absurd (cc))
    (λ t. ap answer_of t.1 ∙ e)
    (put_at m a y (i ∷ p))

module _ {J W A : Type 0} (rs : Rules J W A) (rank : J → ℕ) (law : Lawful rs rank) (top : J) where
  pub in_job_stays : (m : Marks J A) (a : Place) (y : Mark J A) (i : ℕ) (p : Place) (t : Task J W) → answer_of (m a) ≡ None → a ≢ p → InJob rs m i p t → InJob rs (put m a y) i p t
  in_job_stays m a y i p t none ne h = record {
    job = h.job;
    is_open = put_other m a y p ne ∙ h.is_open;
    has_task = law.grows h.job (values m p) (values (put m a y) p) (grown m a y none p) i t h.has_task;
  }

  -- ---- round an item

  pub of_busy : (m : Marks J A) (i : ℕ) (p : Place) → Nested rs top m → m (i ∷ p) ≡ Busy → (work : W) × InJob rs m i p (Work work)
  of_busy m i p h e = subst (λ (x : Mark J A). Fits rs top m (i ∷ p) x) e (h.fits (i ∷ p))

  pub of_open : (m : Marks J A) (i : ℕ) (p : Place) (d : J) → Nested rs top m → m (i ∷ p) ≡ Open d → InJob rs m i p (Call d)
  of_open m i p d h e = subst (λ (x : Mark J A). Fits rs top m (i ∷ p) x) e (h.fits (i ∷ p))

  pub top_not_busy : (m : Marks J A) → Nested rs top m → m [] ≢ Busy
  top_not_busy m h e = subst (λ (x : Mark J A). Fits rs top m [] x) e (h.fits [])

  pub top_not_free : (m : Marks J A) → Nested rs top m → m [] ≢ Free
  top_not_free m h e = subst (λ (x : Mark J A). Fits rs top m [] x) e (h.fits [])

  pub top_is : (m : Marks J A) (j : J) → Nested rs top m → m [] ≡ Open j → j ≡ top
  top_is m j h e = subst (λ (x : Mark J A). Fits rs top m [] x) e (h.fits [])

  -- a job is open only within open jobs
  pub top_open : (m : Marks J A) (p : Place) (j : J) → Nested rs top m → m p ≡ Open j → (d : J) × (m [] ≡ Open d)
  top_open m [] j h o = (j, o)
  top_open m (i ∷ p) j h o = let up = of_open m i p j h o in top_open m p up.job h up.is_open

  -- the deeper an open job, the lower its rank
  pub deep : (m : Marks J A) (p : Place) (j : J) → Nested rs top m → m p ≡ Open j → rank j + length p ≤ rank top
  deep m [] j h o = let same : rank j ≡ rank top = ap rank (top_is m j h o) in omega arith
  deep m (i ∷ p) j h o =
      let up = of_open m i p j h o in
      let less = law.falls up.job (values m p) i j up.has_task in
      let rest = deep m p up.job h up.is_open in
      omega arith

  -- under an item that isn't open nothing is
  pub under_idle : (m : Marks J A) (a : Place) (k : ℕ) → Nested rs top m → ((d : J) → m a ≢ Open d) → IsIdle (m (k ∷ a))
  under_idle m a k h shut = (
    λ e. let t = of_busy m k a h e in shut t.1.job t.1.is_open,
    λ d e. let t = of_open m k a d h e in shut t.job t.is_open,
  )

  -- nor in a quiet job
  pub quiet_idle : (m : Marks J A) (j : J) (p : Place) (k : ℕ) → Nested rs top m → m p ≡ Open j → is_quiet rs m j p ≡ true → IsIdle (m (k ∷ p))
  quiet_idle m j p k h o quiet = (
    λ e. let t = of_busy m k p h e in let s : is_settled {A = A} Busy (rs.rule j (values m p) k) ≡ true = subst (λ (x : Mark J A). is_settled x (rs.rule j (values m p) k) ≡ true) e (settled (Work t.0) t.1) in cc,
    λ d e. let t = of_open m k p d h e in let s : is_settled {A = A} (Open d) (rs.rule j (values m p) k) ≡ true = subst (λ (x : Mark J A). is_settled x (rs.rule j (values m p) k) ≡ true) e (settled (Call d) t) in cc,
  )
    where
      settled : (t : Task J W) → InJob rs m k p t → is_settled (m (k ∷ p)) (rs.rule j (values m p) k) ≡ true
      settled t f =
          below_all (rs.count j (values m p)) (λ i. is_settled (m (i ∷ p)) (rs.rule j (values m p) i)) quiet k
          (law.counts j (values m p) k t (subst (λ (z : J). rs.rule z (values m p) k ≡ Some t) (one_open m p f.job j f.is_open o) f.has_task))

  -- ---- one write

  write_nested : (m : Marks J A) (a : Place) (y : Mark J A) → Nested rs top m → answer_of (m a) ≡ None → y ≢ Free → Fits rs top m a y
      → ((i : ℕ) (p : Place) → a ≡ i ∷ p → (j : J) × (m p ≡ Open j)) → ((k : ℕ) → IsIdle (m (k ∷ a))) → Nested rs top (put m a y)
  write_nested m a y h none used fit parent kids =
      let n : Marks J A = put m a y in
      record {
        fits = λ b.
            ⊎_elim
            (λ t. subst (λ (x : Place). Fits rs top n x (n x)) t.0 (subst (λ (x : Mark J A). Fits rs top n a x) (sym (put_here m a y)) (moved a y (λ i p e f. absurd (cons_ne i p (sym e ∙ f))) fit)))
            (λ t. subst (λ (x : Mark J A). Fits rs top n b x) (sym t.1) (moved b (m b) (λ i p e f. subst (λ (z : Place). IsIdle (m z)) (ap (λ (z : Place). i ∷ z) f ∙ sym e) (kids i)) (h.fits b)))
            (put_at m a y b);
        fresh = λ i p free.
            ⊎_elim
            (λ t. absurd (used (sym t.1 ∙ free)))
            (λ t. ⊎_elim (λ u. let o = parent i p u.0 in let f : m p ≡ Free = sym t.1 ∙ free in let g : m p ≡ Open o.0 = o.1 in absurd (cc)) (λ u. u.1 ∙ h.fresh i p (sym t.1 ∙ free)) (put_at m a y (i ∷ p)))
            (put_at m a y p);
      }
    where
      moved : (b : Place) (x : Mark J A) → ((i : ℕ) (p : Place) → b ≡ i ∷ p → a ≡ p → IsIdle x) → Fits rs top m b x → Fits rs top (put m a y) b x
      moved [] Free way f = f
      moved [] Busy way f = f
      moved [] (Open d) way f = f
      moved [] (Done v) way f = f
      moved (i ∷ p) Free way f = tt
      moved (i ∷ p) Busy way f = (f.0, in_job_stays m a y i p (Work f.0) none (λ e. (way i p refl e).0 refl) f.1)
      moved (i ∷ p) (Open d) way f = in_job_stays m a y i p (Call d) none (λ e. (way i p refl e).1 d refl) f
      moved (i ∷ p) (Done v) way f = tt

  pub opens_nested : OpensKeep rs (Nested rs top)
  opens_nested m i p d h free job =
      write_nested m (i ∷ p) (Open d) h (ap answer_of free) (λ u. cc) job
      (λ k q e. (job.job, ap m (sym (tail_is i k p q e)) ∙ job.is_open))
      (λ k. under_idle m (i ∷ p) k h (λ c f. cc))

  pub begins_nested : BeginsKeep rs (Nested rs top)
  begins_nested m i p work h free job =
      write_nested m (i ∷ p) Busy h (ap answer_of free) (λ u. cc) (work, job)
      (λ k q e. (job.job, ap m (sym (tail_is i k p q e)) ∙ job.is_open))
      (λ k. under_idle m (i ∷ p) k h (λ c f. cc))

  pub ends_nested : (m : Marks J A) (i : ℕ) (p : Place) (a : A) → Nested rs top m → m (i ∷ p) ≡ Busy → Nested rs top (put m (i ∷ p) (Done a))
  ends_nested m i p a h busy =
      let job = (of_busy m i p h busy).1 in
      write_nested m (i ∷ p) (Done a) h (ap answer_of busy) (λ u. cc) tt
      (λ k q e. (job.job, ap m (sym (tail_is i k p q e)) ∙ job.is_open))
      (λ k. under_idle m (i ∷ p) k h (λ c f. cc))

  pub closes_nested : ClosesKeep rs (Nested rs top)
  closes_nested m p j h o quiet =
      write_nested m p (Done (rs.outcome j (values m p))) h (ap answer_of o) (λ u. cc) (fit p)
      (λ k q e. let t = of_open m k q j h (ap m (sym e) ∙ o) in (t.job, t.is_open))
      (λ k. quiet_idle m j p k h o quiet)
    where
      fit : (q : Place) → Fits rs top m q (Done (rs.outcome j (values m p)))
      fit [] = tt
      fit (i ∷ q) = tt

  -- ---- the steps

  pub opened_nested : (m : Marks J A) (p : Place) → Nested rs top m → Nested rs top (opened rs m p)
  opened_nested m p h = opened_keeps rs (Nested rs top) opens_nested m p h

  pub claimed_nested : (m : Marks J A) (a : Place) → Nested rs top m → Nested rs top (claimed rs m a)
  claimed_nested m a h = claimed_keeps rs (Nested rs top) opens_nested begins_nested m a h

  pub finished_nested : (m : Marks J A) (a : Place) (b : A) → Nested rs top m → Nested rs top (finished rs m a b)
  finished_nested m [] b h = h
  finished_nested m (i ∷ p) b h = finished_keeps rs (Nested rs top) closes_nested m i p b h (ends_nested m i p b h)

  pub start_nested : Nested rs top (start_mark top)
  start_nested = record { fits = fits; fresh = λ i p h. refl }
    where
      fits : (a : Place) → Fits rs top (start_mark top) a (start_mark top a)
      fits [] = refl
      fits (i ∷ p) = tt

  pub after_nested : (s : State J A) (e : Entry A) → Nested rs top s.marks → Nested rs top (after rs s e).marks
  after_nested s (Claim w a) h = claimed_nested s.marks a h
  after_nested s (Finish w b) h = go (s.running w)
    where
      go : (r : Option Place) → Nested rs top (finish_of rs s w b r).marks
      go None = h
      go (Some a) = finished_nested s.marks a b h

  pub from_nested : (s : State J A) (es : List (Entry A)) → Nested rs top s.marks → Nested rs top (state_from rs s es).marks
  from_nested s [] h = h
  from_nested s (e ∷ es) h = from_nested (after rs s e) es (after_nested s e h)

  -- each state of any journal
  pub journal_nested : (es : List (Entry A)) → Nested rs top (state rs top es).marks
  journal_nested es = from_nested (start top) es start_nested
