-- No open job is quiet: the finish that makes it so closes it.
use Rattle.std.proofs.Common.{◌≡◌, ◌≢◌, ℕ, zero, suc, Bool, true, false, ◌&&◌, Option, Some, None, [], ◌∷◌, refl, sym, ◌∙◌, ap, subst, inl, inr, ⊎_elim}
use Rattle.nested_jobs.specs.Rules.{Place, Task, Work, Call, Rules}
use Rattle.nested_jobs.specs.Marks.{Mark, Free, Busy, Open, Done, Marks, put, answer_of, values}
use Rattle.nested_jobs.specs.Steps.{claimed, is_settled, all_below, is_quiet, close_one, closed, ends, finished}
use Rattle.nested_jobs.specs.Journals.{start_mark}
use Rattle.nested_jobs.specs.Meanings.{Lawful}
use Rattle.nested_jobs.specs.Invariants.{InJob, Nested, Unsettled, OpenUnsettled}
use Rattle.nested_jobs.proofs.Places.{place_cases, cons_ne, tail_is, put_at, put_here, put_other, put_back, one_open}
use Rattle.nested_jobs.proofs.Turns.{OpensKeep, BeginsKeep, claimed_keeps, close_cases}
use Rattle.nested_jobs.proofs.Nesting.{below_all, of_busy, of_open, opens_nested, begins_nested}

pub some_below : (n : ℕ) (f : ℕ → Bool) → all_below n f ≡ false → (k : ℕ) × (f k ≡ false)
some_below zero f h = absurd (cc)
some_below (suc n) f h = go (some_below n f) (f n) refl
  where
    go : (all_below n f ≡ false → (k : ℕ) × (f k ≡ false)) → (b : Bool) → f n ≡ b → (k : ℕ) × (f k ≡ false)
    go rest false e = (n, e)
    go rest true e = rest (sym (ap (λ (b : Bool). b && all_below n f) e) ∙ h)

pub not_true : (b : Bool) → (b ≡ true → ⊥) → b ≡ false
not_true true h = absurd (h refl)
not_true false h = refl

module _ {J W A : Type 0} (rs : Rules J W A) where
  -- a job is unsettled where it isn't quiet
  pub not_quiet_unsettled : (m : Marks J A) (j : J) (p : Place) → is_quiet rs m j p ≡ false → Unsettled rs m p j
  not_quiet_unsettled m j p q = some_below (rs.count j (values m p)) (λ i. is_settled (m (i ∷ p)) (rs.rule j (values m p) i)) q

  abbrev UnsettledBy : J → (ℕ → Mark J A) → Type 0
  UnsettledBy j f = (i : ℕ) × (is_settled (f i) (rs.rule j (λ k. answer_of (f k)) i) ≡ false)

  unsettled_same : (m n : Marks J A) (p : Place) (j : J) → ((k : ℕ) → m (k ∷ p) ≡ n (k ∷ p)) → Unsettled rs m p j → Unsettled rs n p j
  unsettled_same m n p j e h =
      let f : ◌≡◌ {A = ℕ → Mark J A} (λ k. m (k ∷ p)) (λ k. n (k ∷ p)) = λ x k. e k x in
      subst (UnsettledBy j) f h

  -- a write at no item of a job
  unsettled_other : (m : Marks J A) (a : Place) (y : Mark J A) (p : Place) (j : J) → ((k : ℕ) → a ≢ k ∷ p) → Unsettled rs m p j → Unsettled rs (put m a y) p j
  unsettled_other m a y p j ne h = unsettled_same m (put m a y) p j (λ k. sym (put_other m a y (k ∷ p) (ne k))) h

  -- no open job is quiet, but perhaps this one
  abbrev pub UnsettledBut : Place → Marks J A → Type 0
  UnsettledBut b m = (q : Place) (j : J) → m q ≡ Open j → q ≢ b → Unsettled rs m q j

  -- after a job was closed where it is quiet, none but the one round it can be quiet
  close_unsettled : (m : Marks J A) (a : Place) → UnsettledBut a m → (q : Place) (j : J) → close_one rs m a q ≡ Open j → ((k : ℕ) → a ≢ k ∷ q) → Unsettled rs (close_one rs m a) q j
  close_unsettled m a but q j o apart =
      elim (close_cases rs m a) [
        | inl t ↦
            let y : Mark J A = Done (rs.outcome t.0 (values m a)) in
            let o' : put m a y q ≡ Open j = sym (ap (λ (f : Marks J A). f q) t.3) ∙ o in
            subst (λ (f : Marks J A). Unsettled rs f q j) (sym t.3)
            (⊎_elim
            (λ u. let b : y ≡ Open j = sym u.1 ∙ o' in absurd (cc))
            (λ u. unsettled_other m a y q j apart (but q j (sym u.1 ∙ o') (λ e. u.0 (sym e))))
            (put_at m a y q))
        | inr t ↦
            let o' : m q ≡ Open j = sym (ap (λ (f : Marks J A). f q) t.0) ∙ o in
            subst (λ (f : Marks J A). Unsettled rs f q j) (sym t.0)
            (⊎_elim
            (λ (e : q ≡ a). subst (λ (z : Place). Unsettled rs m z j) (sym e) (not_quiet_unsettled m j a (t.1 j (ap m (sym e) ∙ o'))))
            (λ (ne : q ≢ a). but q j o' ne)
            (place_cases q a))
      ]

  pub closed_unsettled : (m : Marks J A) (p : Place) → UnsettledBut p m → OpenUnsettled rs (closed rs m p)
  closed_unsettled m [] but = λ q j o. close_unsettled m [] but q j o (λ k e. cc)
  closed_unsettled m (i ∷ p) but =
      closed_unsettled (close_one rs m (i ∷ p)) p (λ q j o ne. close_unsettled m (i ∷ p) but q j o (λ k e. ne (sym (tail_is i k p q e))))

  ends_unsettled : (m : Marks J A) (i : ℕ) (p : Place) (a : A) → OpenUnsettled rs m → UnsettledBut p (put m (i ∷ p) (Done a))
  ends_unsettled m i p a unsettled q j o ne =
      ⊎_elim
      (λ u. let b : Done a ≡ Open j = sym u.1 ∙ o in absurd (cc))
      (λ u. unsettled_other m (i ∷ p) (Done a) q j (λ k e. ne (sym (tail_is i k p q e))) (unsettled q j (sym u.1 ∙ o)))
      (put_at m (i ∷ p) (Done a) q)

  pub finished_unsettled : (m : Marks J A) (a : Place) (b : A) → OpenUnsettled rs m → OpenUnsettled rs (finished rs m a b)
  finished_unsettled m [] b unsettled = unsettled
  finished_unsettled m (i ∷ p) b unsettled = closed_unsettled (put m (i ∷ p) (ends b (m (i ∷ p)))) p (go (m (i ∷ p)) refl)
    where
      still : (x : Mark J A) → m (i ∷ p) ≡ x → UnsettledBut p (put m (i ∷ p) x)
      still x e = subst (λ (f : Marks J A). UnsettledBut p f) (sym (put_back m (i ∷ p) x e)) (λ q j o ne. unsettled q j o)

      go : (x : Mark J A) → m (i ∷ p) ≡ x → UnsettledBut p (put m (i ∷ p) (ends b x))
      go Free e = still Free e
      go Busy e = ends_unsettled m i p b unsettled
      go (Open d) e = still (Open d) e
      go (Done v) e = still (Done v) e

module _ {J W A : Type 0} (rs : Rules J W A) (rank : J → ℕ) (law : Lawful rs rank) (top : J) where
  -- an unsettled job isn't quiet
  pub unsettled_not_quiet : (m : Marks J A) (p : Place) (j : J) → Nested rs top m → m p ≡ Open j → Unsettled rs m p j → is_quiet rs m j p ≡ false
  unsettled_not_quiet m p j h o s = not_true (is_quiet rs m j p) (λ quiet. go quiet (m (s.0 ∷ p)) (rs.rule j (values m p) s.0) refl refl)
    where
      i : ℕ
      i = s.0

      settled : is_quiet rs m j p ≡ true → (t : Task J W) → rs.rule j (values m p) i ≡ Some t → ⊥
      settled quiet t r =
          let all = below_all (rs.count j (values m p)) (λ k. is_settled (m (k ∷ p)) (rs.rule j (values m p) k)) quiet i (law.counts j (values m p) i t r) in
          let no : is_settled (m (i ∷ p)) (rs.rule j (values m p) i) ≡ false = s.1 in
          cc

      of : (t : Task J W) → InJob rs m i p t → rs.rule j (values m p) i ≡ Some t
      of t f = subst (λ (z : J). rs.rule z (values m p) i ≡ Some t) (one_open m p f.job j f.is_open o) f.has_task

      go : is_quiet rs m j p ≡ true → (x : Mark J A) (t : Option (Task J W)) → m (i ∷ p) ≡ x → rs.rule j (values m p) i ≡ t → ⊥
      go quiet x (Some t) e r = settled quiet t r
      go quiet Busy None e r = let w = of_busy rs rank law top m i p h e in settled quiet (Work w.0) (of (Work w.0) w.1)
      go quiet (Open d) None e r = let w = of_open rs rank law top m i p d h e in settled quiet (Call d) (of (Call d) w)
      go quiet Free None e r =
          let none : Option (Task J W) = None in
          let u : is_settled {A = A} Free none ≡ false = subst (λ (z : Option (Task J W)). is_settled {A = A} Free z ≡ false) r (subst (λ (z : Mark J A). is_settled z (rs.rule j (values m p) i) ≡ false) e s.1) in
          cc
      go quiet (Done v) None e r =
          let none : Option (Task J W) = None in
          let u : is_settled (Done v) none ≡ false = subst (λ (z : Option (Task J W)). is_settled (Done v) z ≡ false) r (subst (λ (z : Mark J A). is_settled z (rs.rule j (values m p) i) ≡ false) e s.1) in
          cc

  abbrev Both : Marks J A → Type 0
  Both m = Nested rs top m × OpenUnsettled rs m

  -- a fresh job is unsettled
  fresh_unsettled : (m : Marks J A) (p : Place) (j : J) → ((k : ℕ) → m (k ∷ p) ≡ Free) → Unsettled rs m p j
  fresh_unsettled m p j free =
      let t = law.starts j in
      let r : rs.rule j (values m p) t.0 ≡ Some t.1 = law.grows j (λ _. None) (values m p) (λ i a e. absurd (cc)) t.0 t.1 t.2 in
      let s : is_settled {A = A} Free (Some t.1) ≡ false = refl in
      (t.0, subst (λ (z : Option (Task J W)). is_settled (m (t.0 ∷ p)) z ≡ false) (sym r) (subst (λ (x : Mark J A). is_settled x (Some t.1) ≡ false) (sym (free t.0)) s))

  opens_both : OpensKeep rs Both
  opens_both m i p d h free job = (
    opens_nested rs rank law top m i p d h.0 free job,
    λ q j o.
        ⊎_elim
        (λ u. subst (λ (z : Place). Unsettled rs n z j) u.0 (fresh_unsettled n (i ∷ p) j (λ k. put_other m (i ∷ p) (Open d) (k ∷ i ∷ p) (λ e. cons_ne k (i ∷ p) (sym e)) ∙ h.0.fresh k (i ∷ p) free)))
        (λ u. ⊎_elim
        (λ (e : q ≡ p). subst (λ (z : Place). Unsettled rs n z j) (sym e) (i, subst (λ (x : Mark J A). is_settled x (rs.rule j (values n p) i) ≡ false) (sym (put_here m (i ∷ p) (Open d))) refl))
        (λ (ne : q ≢ p). unsettled_other rs m (i ∷ p) (Open d) q j (λ k e. ne (sym (tail_is i k p q e))) (h.1 q j (sym u.1 ∙ o)))
        (place_cases q p))
        (put_at m (i ∷ p) (Open d) q),
  )
    where
      n : Marks J A
      n = put m (i ∷ p) (Open d)

  begins_both : BeginsKeep rs Both
  begins_both m i p work h free job = (
    begins_nested rs rank law top m i p work h.0 free job,
    λ q j o.
        ⊎_elim
        (λ u. let b : Busy ≡ Open j = sym u.1 ∙ o in absurd (cc))
        (λ u. ⊎_elim
        (λ (e : q ≡ p). subst (λ (z : Place). Unsettled rs n z j) (sym e) (i, subst (λ (x : Mark J A). is_settled x (rs.rule j (values n p) i) ≡ false) (sym (put_here m (i ∷ p) Busy)) refl))
        (λ (ne : q ≢ p). unsettled_other rs m (i ∷ p) Busy q j (λ k e. ne (sym (tail_is i k p q e))) (h.1 q j (sym u.1 ∙ o)))
        (place_cases q p))
        (put_at m (i ∷ p) Busy q),
  )
    where
      n : Marks J A
      n = put m (i ∷ p) Busy

  pub claimed_unsettled : (m : Marks J A) (a : Place) → Nested rs top m → OpenUnsettled rs m → OpenUnsettled rs (claimed rs m a)
  claimed_unsettled m a h unsettled = (claimed_keeps rs Both opens_both begins_both m a (h, unsettled)).1

  pub start_unsettled : OpenUnsettled rs (start_mark {A = A} top)
  start_unsettled [] j o = fresh_unsettled (start_mark top) [] j (λ k. refl)
  start_unsettled (i ∷ p) j o = absurd (cc)
