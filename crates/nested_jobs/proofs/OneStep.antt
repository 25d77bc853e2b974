-- What one claim and one finish do, for code that keeps marks: each as writes of single marks.
use Rattle.std.proofs.Common.{◌≡◌, ◌≢◌, ℕ, true, false, Option, Some, None, List, [], ◌∷◌, ◌++◌, ◌<◌, length, refl, sym, ◌∙◌, ap, subst, ⊎_elim, arith, length-append}
use Rattle.nested_jobs.specs.Rules.{Place, Task, Work, Call, Rules}
use Rattle.nested_jobs.specs.Marks.{Mark, Free, Busy, Open, Done, Marks, put, answer_of, values}
use Rattle.nested_jobs.specs.Steps.{open_one, begin_one, opened, claimed, IsEnabled, is_quiet, close_one, closed, ends, finished}
use Rattle.nested_jobs.specs.Journals.{Entry, Claim, Finish, State, finish_of, after, task_of, Allowed}
use Rattle.nested_jobs.specs.Meanings.{Lawful}
use Rattle.nested_jobs.specs.Invariants.{InJob, Nested, Keeps}
use Rattle.nested_jobs.specs.Pick.{outer_by, outer, Prefers}
use Rattle.nested_jobs.proofs.Places.{tail_is, put_at, put_here, put_other, one_open}
use Rattle.nested_jobs.proofs.Turns.{in_job, task_is, claimed_keeps, close_cases, finished_keeps}
use Rattle.nested_jobs.proofs.Nesting.{in_job_stays, of_open, of_busy, top_not_busy, quiet_idle, ends_nested, closes_nested, opens_nested}
use Rattle.nested_jobs.proofs.Unsettled.{not_true}
use Rattle.nested_jobs.proofs.Running.{assign_at}
use Rattle.nested_jobs.proofs.Finding.{opened_open, claimed_ready, opened_ready}

-- ---- the answers of a job's items after a write

module _ {J A : Type 0} (m : Marks J A) where
  pub values_other : (i : ℕ) (p : Place) (y : Mark J A) (q : Place) → q ≢ p → values (put m (i ∷ p) y) q ≡ values m q
  values_other i p y q ne =
      let at : (k : ℕ) → values (put m (i ∷ p) y) q k ≡ values m q k = λ k. ap answer_of (put_other m (i ∷ p) y (k ∷ q) (λ e. ne (sym (tail_is i k p q e)))) in
      λ x k. at k x

  -- a write between marks without an answer
  pub values_same : (a : Place) (y : Mark J A) (q : Place) → answer_of y ≡ answer_of (m a) → values (put m a y) q ≡ values m q
  values_same a y q same =
      let at : (k : ℕ) → values (put m a y) q k ≡ values m q k = λ k. ⊎_elim (λ t. ap answer_of t.1 ∙ (same ∙ ap (λ (z : Place). answer_of (m z)) t.0)) (λ t. ap answer_of t.1) (put_at m a y (k ∷ q)) in
      λ x k. at k x

module _ {J W A : Type 0} (rs : Rules J W A) where
  -- ---- finishes

  pub finished_is : (m : Marks J A) (i : ℕ) (p : Place) (v : A) → m (i ∷ p) ≡ Busy → finished rs m (i ∷ p) v ≡ closed rs (put m (i ∷ p) (Done v)) p
  finished_is m i p v busy = ap (λ (x : Mark J A). closed rs (put m (i ∷ p) (ends v x)) p) busy

  -- a quiet job is closed, and then those round it
  closes_as : (m : Marks J A) (p : Place) (j : J) → m p ≡ Open j → is_quiet rs m j p ≡ true → close_one rs m p ≡ put m p (Done (rs.outcome j (values m p)))
  closes_as m p j o quiet =
      ⊎_elim
      (λ t. t.3 ∙ ap (λ (z : J). put m p (Done (rs.outcome z (values m p)))) (one_open m p t.0 j t.1 o))
      (λ t. let no : is_quiet rs m j p ≡ false = t.1 j o in absurd (cc))
      (close_cases rs m p)

  -- a job that isn't quiet stays
  pub close_stays : (m : Marks J A) (p : Place) (j : J) → m p ≡ Open j → is_quiet rs m j p ≡ false → close_one rs m p ≡ m
  close_stays m p j o unsettled =
      ⊎_elim
      (λ t. let quiet : is_quiet rs m j p ≡ true = subst (λ (z : J). is_quiet rs m z p ≡ true) (one_open m p t.0 j t.1 o) t.2 in absurd (cc))
      (λ t. t.0)
      (close_cases rs m p)

  pub closed_top : (m : Marks J A) (j : J) → m [] ≡ Open j → is_quiet rs m j [] ≡ true → closed rs m [] ≡ put m [] (Done (rs.outcome j (values m [])))
  closed_top m j o quiet = closes_as m [] j o quiet

  pub closed_goes_on : (m : Marks J A) (i : ℕ) (p : Place) (j : J) → m (i ∷ p) ≡ Open j → is_quiet rs m j (i ∷ p) ≡ true → closed rs m (i ∷ p) ≡ closed rs (put m (i ∷ p) (Done (rs.outcome j (values m (i ∷ p))))) p
  closed_goes_on m i p j o quiet = ap (λ (n : Marks J A). closed rs n p) (closes_as m (i ∷ p) j o quiet)

module _ {J W A : Type 0} (rs : Rules J W A) (rank : J → ℕ) (law : Lawful rs rank) (top : J) where
  -- ---- claims

  -- a ready item whose task is work is enabled
  pub work_enabled : (m : Marks J A) (i : ℕ) (p : Place) (work : W) → Nested rs top m → m (i ∷ p) ≡ Free → InJob rs m i p (Work work) → IsEnabled rs m (i ∷ p)
  work_enabled m i p work h free job = (free, ap (λ (f : Marks J A). f (i ∷ p)) (claimed_ready rs rank law top m i p work h free job) ∙ put_here m (i ∷ p) Busy)

  -- below a ready item whose task is a call, claims are those in the marks with its job open
  module _ (m : Marks J A) (i : ℕ) (p : Place) (d : J) (h : Nested rs top m) (free : m (i ∷ p) ≡ Free) (job : InJob rs m i p (Call d)) where
    abbrev with_open : Marks J A
    with_open = put m (i ∷ p) (Open d)

    pub opened_nested_too : Nested rs top with_open
    opened_nested_too = opens_nested rs rank law top m i p d h free job

    opened_below : (way : List ℕ) → opened rs m (way ++ i ∷ p) ≡ opened rs with_open (way ++ i ∷ p)
    opened_below [] = opened_ready rs rank law top m i p d h free job ∙ sym (opened_open rs rank law top with_open (i ∷ p) d opened_nested_too (put_here m (i ∷ p) (Open d)))
    opened_below (k ∷ way) = ap (λ (n : Marks J A). open_one rs n k (way ++ i ∷ p)) (opened_below way)

    pub claimed_below : (k : ℕ) (way : List ℕ) → claimed rs m (k ∷ way ++ i ∷ p) ≡ claimed rs with_open (k ∷ way ++ i ∷ p)
    claimed_below k way = ap (λ (n : Marks J A). begin_one rs n k (way ++ i ∷ p)) (opened_below way)

    pub enabled_below : (k : ℕ) (way : List ℕ) → IsEnabled rs with_open (k ∷ way ++ i ∷ p) → IsEnabled rs m (k ∷ way ++ i ∷ p)
    enabled_below k way e = (
      sym (put_other m (i ∷ p) (Open d) (k ∷ way ++ i ∷ p) (λ f. let l = ap length f in let r = length-append way (i ∷ p) in omega arith)) ∙ e.0,
      ap (λ (f : Marks J A). f (k ∷ way ++ i ∷ p)) (claimed_below k way) ∙ e.1,
    )

  -- ---- the rules of the pick

  pub outer_open : (m : Marks J A) (q : Place) (c : J) → m q ≡ Open c → outer m q ≡ q
  outer_open m [] c o = refl
  outer_open m (i ∷ p) c o = ap (outer_by (i ∷ p) (outer m p)) o

  pub free_below : (m : Marks J A) (a : Place) (way : List ℕ) → Nested rs top m → m a ≡ Free → m (way ++ a) ≡ Free
  free_below m a [] h free = free
  free_below m a (k ∷ way) h free = h.fresh k (way ++ a) (free_below m a way h free)

  pub outer_below : (m : Marks J A) (i : ℕ) (q : Place) (c : J) (way : List ℕ) → Nested rs top m → m q ≡ Open c → m (i ∷ q) ≡ Free → outer m (way ++ i ∷ q) ≡ q
  outer_below m i q c [] h o free = ap (outer_by (i ∷ q) (outer m q)) free ∙ outer_open m q c o
  outer_below m i q c (k ∷ way) h o free = ap (outer_by (k ∷ way ++ i ∷ q) (outer m (way ++ i ∷ q))) (free_below m (i ∷ q) (k ∷ way) h free) ∙ outer_below m i q c way h o free

  -- a claim below a free item of an open job keeps the rules, where no open job has ready work, and none that is deeper a
  -- ready call
  pub prefers_below : (m : Marks J A) (i : ℕ) (q : Place) (c : J) (way : List ℕ) → Nested rs top m → m q ≡ Open c → m (i ∷ q) ≡ Free
      → ((r : Place) (b : J) → m r ≡ Open b → (k : ℕ) (work : W) → m (k ∷ r) ≡ Free → rs.rule b (values m r) k ≢ Some (Work work))
      → ((r : Place) (b : J) → m r ≡ Open b → length q < length r → (k : ℕ) (d : J) → m (k ∷ r) ≡ Free → rs.rule b (values m r) k ≢ Some (Call d))
      → Prefers rs m (way ++ i ∷ q)
  prefers_below m i q c way h o free no_work no_deeper =
      let same : length (outer m (way ++ i ∷ q)) ≡ length q = ap length (outer_below m i q c way h o free) in
      record { no_work = no_work; no_deeper = λ r b e lt. no_deeper r b e (omega arith) }

  -- ---- closings stop at the first job that isn't quiet

  pub closed_stops : (m : Marks J A) (p : Place) (j : J) → Nested rs top m → m p ≡ Open j → is_quiet rs m j p ≡ false → closed rs m p ≡ m
  closed_stops m [] j h o unsettled = close_stays rs m [] j o unsettled
  closed_stops m (i ∷ p) j h o unsettled =
      let up = of_open rs rank law top m i p j h o in
      ap (λ (n : Marks J A). closed rs n p) (close_stays rs m (i ∷ p) j o unsettled)
      ∙ closed_stops m p up.job h up.is_open (not_true (is_quiet rs m up.job p) (λ quiet. (quiet_idle rs rank law top m up.job p i h up.is_open quiet).1 j o))

  -- ---- the work of an item that runs

  pub running_work : (workers : ℕ) (s : State J A) (w : ℕ) (a : Place) → Keeps rs top workers s → s.running w ≡ Some a → (work : W) × (task_of rs s.marks a ≡ Some (Work work))
  running_work workers s w [] h runs = absurd (top_not_busy rs rank law top s.marks h.nested (h.is_busy w [] runs))
  running_work workers s w (i ∷ p) h runs = let t = of_busy rs rank law top s.marks i p h.nested (h.is_busy w (i ∷ p) runs) in (t.0, task_is rs s.marks i p (Work t.0) t.1)

  module _ (i : ℕ) (p : Place) (t : Task J W) where
    abbrev Has : Marks J A → Type 0
    Has n = (n (i ∷ p) ≡ Busy) × InJob rs n i p t

    -- a write at a mark that is neither busy nor of the job round it
    has_by : (n : Marks J A) (a : Place) (y : Mark J A) → answer_of (n a) ≡ None → a ≢ (i ∷ p) → a ≢ p → Has n → Has (put n a y)
    has_by n a y none ne up h = (put_other n a y (i ∷ p) ne ∙ h.0, in_job_stays rs rank law top n a y i p t none up h.1)

    free_apart : (n : Marks J A) (a : Place) → Has n → n a ≡ Free → (a ≢ (i ∷ p)) × (a ≢ p)
    free_apart n a h free = (
      (λ e. let busy : n a ≡ Busy = ap n e ∙ h.0 in cc),
      λ e. let open_ : n a ≡ Open h.1.job = ap n e ∙ h.1.is_open in cc,
    )

    pub claimed_has : (m : Marks J A) (a : Place) → Has m → Has (claimed rs m a)
    claimed_has m a h = claimed_keeps rs Has
        (λ n k q d g free job. let ne = free_apart n (k ∷ q) g free in has_by n (k ∷ q) (Open d) (ap answer_of free) ne.0 ne.1 g)
        (λ n k q work g free job. let ne = free_apart n (k ∷ q) g free in has_by n (k ∷ q) Busy (ap answer_of free) ne.0 ne.1 g)
        m a h

    pub finished_has : (m : Marks J A) (k : ℕ) (q : Place) (v : A) → Nested rs top m → (k ∷ q) ≢ (i ∷ p) → Has m → Has (finished rs m (k ∷ q) v)
    finished_has m k q v h ne has =
        (finished_keeps rs (λ n. Nested rs top n × Has n)
        (λ n a j g o quiet. (
          closes_nested rs rank law top n a j g.0 o quiet,
          has_by n a (Done (rs.outcome j (values n a))) (ap answer_of o)
              (λ e. let open_ : n (i ∷ p) ≡ Open j = ap n (sym e) ∙ o in let busy : n (i ∷ p) ≡ Busy = g.1.0 in cc)
              (λ e. (quiet_idle rs rank law top n j a i g.0 o quiet).0 (ap (λ (z : Place). n (i ∷ z)) e ∙ g.1.0))
              g.1,
        ))
        m k q v (h, has)
        (λ busy. (
          ends_nested rs rank law top m k q v h busy,
          has_by m (k ∷ q) (Done v) (ap answer_of busy) ne (λ e. let open_ : m (k ∷ q) ≡ Open has.1.job = ap m e ∙ has.1.is_open in cc) has,
        ))).1

  -- an item's task stays while a worker runs it
  pub task_stays : (workers : ℕ) (answers : W → A → Type 0) (s : State J A) (e : Entry A) (w : ℕ) (a : Place) (t : Task J W) → Keeps rs top workers s → Allowed rs answers workers s e
      → s.running w ≡ Some a → (after rs s e).running w ≡ Some a → task_of rs s.marks a ≡ Some t → task_of rs (after rs s e).marks a ≡ Some t
  task_stays workers answers s e w [] t h ok runs still is = absurd (top_not_busy rs rank law top s.marks h.nested (h.is_busy w [] runs))
  task_stays workers answers s (Claim u b) w (i ∷ p) t h ok runs still is =
      task_is rs (claimed rs s.marks b) i p t (claimed_has i p t s.marks b (h.is_busy w (i ∷ p) runs, in_job rs s.marks i p t is)).1
  task_stays workers answers s (Finish u v) w (i ∷ p) t h ok runs still is = go (s.running u) refl still
    where
      go : (r : Option Place) → s.running u ≡ r → (finish_of rs s u v r).running w ≡ Some (i ∷ p) → task_of rs (finish_of rs s u v r).marks (i ∷ p) ≡ Some t
      go None e f = is
      go (Some []) e f = is
      go (Some (k ∷ q)) e f =
          task_is rs (finished rs s.marks (k ∷ q) v) i p t
          (finished_has i p t s.marks k q v h.nested
          (λ g. ⊎_elim
          (λ z. let no : ◌≡◌ {A = Option Place} None (Some (i ∷ p)) = sym z.1 ∙ f in cc)
          (λ z. z.0 (h.by_one u w (i ∷ p) (e ∙ ap Some g) runs))
          (assign_at s.running u None w))
          (h.is_busy w (i ∷ p) runs, in_job rs s.marks i p t is)).1
