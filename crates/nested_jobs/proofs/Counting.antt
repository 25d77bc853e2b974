-- At most as many jobs as workers are open at each depth.
use Rattle.std.proofs.Common.{Bool, true, false, ◌||◌, eqb, ◌≡◌, ◌≢◌, ◌⊎◌, ℕ, ◌+◌, ◌<◌, ◌≤◌, Option, Some, None, List, [], ◌∷◌, ◌++◌, length, refl, sym, ◌∙◌, ap, inl, inr, ⊎_elim, arith, length-append}
use Rattle.std.specs.List.{IsDistinct, AllByRecursion, list_any}
use Rattle.std.proofs.lemmas.Bool.{eqb-true, ne_eqb}
use Rattle.std.proofs.lemmas.Map.Steps.{length-le_from_distinct_below}
use Rattle.nested_jobs.specs.Rules.{Place, Task, Work, Call, Rules}
use Rattle.nested_jobs.specs.Marks.{Mark, Free, Busy, Open, Done, Marks, put, values}
use Rattle.nested_jobs.specs.Steps.{task_at, opens, begins, opened, claimed, ends, finished}
use Rattle.nested_jobs.specs.Journals.{Entry, Claim, Finish, State, start_mark, start, finish_of, after, state_from, state, Allowed, LegalFrom, Legal}
use Rattle.nested_jobs.specs.Meanings.{Lawful}
use Rattle.nested_jobs.specs.Invariants.{Nested, OpenUnsettled, Keeps}
use Rattle.nested_jobs.specs.Pick.{outer_by, outer, Prefers, IsPreferred, ArePreferredFrom, NotIn, Distinct, AreOpen, Few}
use Rattle.nested_jobs.proofs.Places.{same_tail, put_at}
use Rattle.nested_jobs.proofs.Turns.{closed_keeps}
use Rattle.nested_jobs.proofs.Running.{start_keeps, after_keeps}
use Rattle.nested_jobs.proofs.Finding.{Found, found, opened_open}

-- ---- lists of distinct numbers

abbrev NotOf : ℕ → List ℕ → Type 0
NotOf n ns = AllByRecursion (λ m. n ≢ m) ns

abbrev Apart : List ℕ → Type 0
Apart [] = Unit {0}
Apart (n ∷ ns) = NotOf n ns × Apart ns

abbrev AllUnder : ℕ → List ℕ → Type 0
AllUnder b ns = AllByRecursion (λ n. n < b) ns

distinct : (ns : List ℕ) → Apart ns → IsDistinct eqb ns
unfolding IsDistinct
distinct [] d = tt
distinct (n ∷ ns) d = (others ns d.0, distinct ns d.1)
  where
    others : (ms : List ℕ) → NotOf n ms → AllByRecursion (λ m. eqb n m ≡ false) ms
    others [] h = tt
    others (m ∷ ms) h = (ne_eqb n m h.0, others ms h.1)

under : (b : ℕ) (ns : List ℕ) → AllUnder b ns → (q : ℕ) → list_any (eqb q) ns ≡ true → q < b
under b [] u q h = absurd (cc)
under b (n ∷ ns) u q h = go (under b ns u.1 q) (eqb q n) refl h
  where
    go : (list_any (eqb q) ns ≡ true → q < b) → (t : Bool) → eqb q n ≡ t → (t || list_any (eqb q) ns) ≡ true → q < b
    go rest true e f = let l = u.0 in let same : q ≡ n = eqb-true q n e in omega arith
    go rest false e f = rest f

-- numbers below a bound, no two of them equal, are no more than it says
pigeons : (b : ℕ) (ns : List ℕ) → Apart ns → AllUnder b ns → length ns ≤ b
pigeons b ns d u = length-le_from_distinct_below ns b (distinct ns d) (under b ns u)

module _ {J W A : Type 0} (rs : Rules J W A) where
  -- ---- which jobs are open after a step

  ends_was : (v : A) (x : Mark J A) (j : J) → ends v x ≡ Open j → x ≡ Open j
  ends_was v Free j h = absurd (cc)
  ends_was v Busy j h = absurd (cc)
  ends_was v (Open c) j h = h
  ends_was v (Done a) j h = absurd (cc)

  finished_was : (m : Marks J A) (i : ℕ) (p : Place) (v : A) (q : Place) (j : J) → finished rs m (i ∷ p) v q ≡ Open j → m q ≡ Open j
  finished_was m i p v q j h = closed_keeps rs (λ n. n q ≡ Open j → m q ≡ Open j)
      (λ n a c before o quiet e. ⊎_elim (λ u. let no : Done (rs.outcome c (values n a)) ≡ Open j = sym u.1 ∙ e in absurd (cc)) (λ u. before (sym u.1 ∙ e)) (put_at n a (Done (rs.outcome c (values n a))) q))
      (put m (i ∷ p) (ends v (m (i ∷ p)))) p
      (λ e. ⊎_elim (λ t. ap m (sym t.0) ∙ ends_was v (m (i ∷ p)) j (sym t.1 ∙ e)) (λ t. sym t.1 ∙ e) (put_at m (i ∷ p) (ends v (m (i ∷ p))) q))
      h

  begins_was : (x : Mark J A) (t : Option (Task J W)) (j : J) → begins x t ≡ Open j → x ≡ Open j
  begins_was Free None j h = absurd (cc)
  begins_was Free (Some (Work a)) j h = absurd (cc)
  begins_was Free (Some (Call c)) j h = absurd (cc)
  begins_was Busy t j h = absurd (cc)
  begins_was (Open c) t j h = h
  begins_was (Done a) t j h = absurd (cc)

  -- a claim opens no more than the opening of the jobs on its way
  claimed_was : (m : Marks J A) (i : ℕ) (p q : Place) (j : J) → claimed rs m (i ∷ p) q ≡ Open j → opened rs m p q ≡ Open j
  claimed_was m i p q j h =
      let n : Marks J A = opened rs m p in
      ⊎_elim (λ t. ap n (sym t.0) ∙ begins_was (n (i ∷ p)) (task_at rs n i p) j (sym t.1 ∙ h)) (λ t. sym t.1 ∙ h) (put_at n (i ∷ p) (begins (n (i ∷ p)) (task_at rs n i p)) q)

  -- open places are as before
  few_by : (workers : ℕ) (m n : Marks J A) → ((q : Place) (j : J) → n q ≡ Open j → (c : J) × (m q ≡ Open c)) → Few workers m → Few workers n
  few_by workers m n was few e ps d o = few e ps d (each ps o)
    where
      each : (ps : List Place) → AreOpen n e ps → AreOpen m e ps
      each [] o = tt
      each (p ∷ ps) o = (o.0, was p o.1.0 o.1.1, each ps o.2)

  outer_short : (m : Marks J A) (p : Place) → length (outer m p) ≤ length p
  outer_short m [] = omega arith
  outer_short m (i ∷ p) = go (m (i ∷ p)) (outer_short m p)
    where
      go : (x : Mark J A) → length (outer m p) ≤ length p → length (outer_by (i ∷ p) (outer m p) x) ≤ length (i ∷ p)
      go Free l = omega arith
      go Busy l = omega arith
      go (Open j) l = omega arith
      go (Done a) l = omega arith

-- ---- each worker's place ends in the place beside it

module _ {J A : Type 0} (s : State J A) where
  abbrev Tied : List ℕ → List Place → Type 0
  Tied [] [] = Unit {0}
  Tied [] (p ∷ ps) = ⊥
  Tied (u ∷ us) [] = ⊥
  Tied (u ∷ us) (p ∷ ps) = ((b : Place) × (s.running u ≡ Some b) × ((xs : List ℕ) × (xs ++ p ≡ b))) × Tied us ps

  not_of : (e u : ℕ) (p b : Place) (xs : List ℕ) → s.running u ≡ Some b → xs ++ p ≡ b → length p ≡ e → (us : List ℕ) (ps : List Place) → Tied us ps → NotIn p ps → AreOpen s.marks e ps → NotOf u us
  not_of e u p b xs r x l [] [] t n o = tt
  not_of e u p b xs r x l [] (q ∷ qs) t n o = tt
  not_of e u p b xs r x l (u' ∷ us) [] t n o = absurd t
  not_of e u p b xs r x l (u' ∷ us) (q ∷ qs) t n o =
      let lq = o.0 in (
        (λ f. let r' : s.running u ≡ Some t.0.0 = ap s.running f ∙ t.0.1 in let same : b ≡ t.0.0 = cc in n.0 (same_tail xs t.0.2.0 p q (omega arith) (x ∙ (same ∙ sym t.0.2.1)))),
        not_of e u p b xs r x l us qs t.1 n.1 o.2,
      )

  idle_not_of : (w : ℕ) → s.running w ≡ None → (us : List ℕ) (ps : List Place) → Tied us ps → NotOf w us
  idle_not_of w idle [] ps t = tt
  idle_not_of w idle (u ∷ us) [] t = absurd t
  idle_not_of w idle (u ∷ us) (p ∷ ps) t =
      ((λ f. let r : s.running w ≡ Some t.0.0 = ap s.running f ∙ t.0.1 in cc), idle_not_of w idle us ps t.1)

module _ {J W A : Type 0} (rs : Rules J W A) (rank : J → ℕ) (law : Lawful rs rank) (top : J) where
  abbrev WasOpen : Marks J A → Place → Type 0
  WasOpen m q = (c : J) × (m q ≡ Open c)

  abbrev EndsIn : Place → Place → Type 0
  EndsIn p q = (xs : List ℕ) × (xs ++ q ≡ p)

  -- a job that an opening opens stands on the way, deeper than the nearest open job
  new_deeper : (m : Marks J A) (p q : Place) (j : J) → Nested rs top m → opened rs m p q ≡ Open j → WasOpen m q ⊎ (EndsIn p q × (length (outer m p) < length q))
  new_deeper m [] q j h o = inl (j, o)
  new_deeper m (i ∷ p) q j h o = go (m (i ∷ p)) refl (λ e. new_deeper m p q j h e)
    where
      n : Marks J A
      n = opened rs m p

      other : (x : Mark J A) → outer_by (i ∷ p) (outer m p) x ≡ outer m p → m (i ∷ p) ≡ x → (n q ≡ Open j → WasOpen m q ⊎ (EndsIn p q × (length (outer m p) < length q)))
          → WasOpen m q ⊎ (EndsIn (i ∷ p) q × (length (outer m (i ∷ p)) < length q))
      other x same e rest =
          let out : outer m (i ∷ p) ≡ outer m p = ap (outer_by (i ∷ p) (outer m p)) e ∙ same in
          let len : length (outer m (i ∷ p)) ≡ length (outer m p) = ap length out in
          let short = outer_short rs m p in
          ⊎_elim
          (λ t. let at : (i ∷ p) ≡ q = t.0 in let lq = ap length at in inr (([], sym at), omega arith))
          (λ t. ⊎_elim (λ u. inl u) (λ u. let l = u.1 in inr ((i ∷ u.0.0, ap (λ (z : Place). i ∷ z) u.0.1), omega arith)) (rest (sym t.1 ∙ o)))
          (put_at n (i ∷ p) (opens (n (i ∷ p)) (task_at rs n i p)) q)

      go : (x : Mark J A) → m (i ∷ p) ≡ x → (n q ≡ Open j → WasOpen m q ⊎ (EndsIn p q × (length (outer m p) < length q)))
          → WasOpen m q ⊎ (EndsIn (i ∷ p) q × (length (outer m (i ∷ p)) < length q))
      go Free e rest = other Free refl e rest
      go Busy e rest = other Busy refl e rest
      go (Done a) e rest = other (Done a) refl e rest
      go (Open d) e rest = inl (j, sym (ap (λ (f : Marks J A). f q) (opened_open rs rank law top m (i ∷ p) d h e)) ∙ o)

  -- below a job that is deeper, an item is busy
  busy_below : (m : Marks J A) (p q : Place) (c : J) → Nested rs top m → OpenUnsettled rs m → Prefers rs m p → m q ≡ Open c → length (outer m p) < length q → (b : Place) × (m b ≡ Busy) × EndsIn b q
  busy_below m p q c h unsettled pre o deep = go (found rs rank law top m q c h unsettled o)
    where
      ready : (i : ℕ) (way : List ℕ) (d : J) → m (way ++ q) ≡ Open d → m (i ∷ way ++ q) ≡ Free → (t : Task J W) → rs.rule d (values m (way ++ q)) i ≡ Some t → ⊥
      ready i way d e free (Work work) r = pre.no_work (way ++ q) d e i work free r
      ready i way d e free (Call f) r = pre.no_deeper (way ++ q) d e (let l = length-append way q in omega arith) i f free r

      go : Found rs m q → (b : Place) × (m b ≡ Busy) × EndsIn b q
      go (Found.Is_busy i way e) = (i ∷ way ++ q, e, (i ∷ way, refl))
      go (Found.Is_ready i way r) = absurd (ready i way r.in_job.job r.in_job.is_open r.free r.task r.in_job.has_task)

  module _ (workers : ℕ) (s : State J A) (h : Keeps rs top workers s) where
    -- to each of these jobs belongs a worker that runs something below it
    tied : (e : ℕ) (p : Place) → Prefers rs s.marks p → length (outer s.marks p) < e → (ps : List Place) → Distinct ps → AreOpen s.marks e ps → (us : List ℕ) × (length ps ≡ length us) × Apart us × AllUnder workers us × Tied s us ps
    tied e p pre deep [] d o = ([], refl, tt, tt, tt)
    tied e p pre deep (q ∷ qs) d o =
        let lq = o.0 in
        let b = busy_below s.marks p q o.1.0 h.nested h.unsettled pre o.1.1 (omega arith) in
        let c = h.is_run b.0 b.1 in
        let t = tied e p pre deep qs d.1 o.2 in
        let l = t.1 in
        (c.0 ∷ t.0, omega arith, (not_of s e c.0 q b.0 b.2.0 c.2 b.2.1 lq t.0 qs t.4 d.0 o.2, t.2), (c.1, t.3), ((b.0, c.2, b.2), t.4))

    -- all places are old, or one of them is new
    all_old : (n : Marks J A) (e : ℕ) (new : Place) → ((q : Place) (j : J) → n q ≡ Open j → length q ≡ e → WasOpen s.marks q ⊎ (q ≡ new)) → (ps : List Place) → NotIn new ps → AreOpen n e ps → AreOpen s.marks e ps
    all_old n e new was [] ne o = tt
    all_old n e new was (q ∷ qs) ne o =
        (o.0, ⊎_elim (λ u. u) (λ u. absurd (ne.0 (sym u))) (was q o.1.0 o.1.1 o.0), all_old n e new was qs ne.1 o.2)

    drop_new : (n : Marks J A) (e : ℕ) (p : Place) → ((q : Place) (j : J) → n q ≡ Open j → WasOpen s.marks q ⊎ EndsIn p q) → (ps : List Place) → Distinct ps → AreOpen n e ps
        → (qs : List Place) × (length ps ≤ length qs + 1) × Distinct qs × AreOpen s.marks e qs × ((r : Place) → NotIn r ps → NotIn r qs)
    drop_new n e p was [] d o = ([], omega arith, tt, tt, λ r h. tt)
    drop_new n e p was (q ∷ qs) d o =
        ⊎_elim
        (λ u. let t = drop_new n e p was qs d.1 o.2 in let l = t.1 in (q ∷ t.0, omega arith, (t.4 q d.0, t.2), (o.0, u, t.3), λ r h. (h.0, t.4 r h.1)))
        (λ u.
        let old = all_old n e q (λ r j f l. ⊎_elim (λ v. inl v) (λ v. let lq = o.0 in inr (same_tail v.0 u.0 r q (omega arith) (v.1 ∙ sym u.1))) (was r j f)) qs d.0 o.2 in
        (qs, omega arith, d.1, old, λ r h. h.1))
        (was q o.1.0 o.1.1)

    claim_few : (w i : ℕ) (p : Place) → w < workers → s.running w ≡ None → Prefers rs s.marks p → Few workers s.marks → Few workers (claimed rs s.marks (i ∷ p))
    claim_few w i p lt idle pre few e ps d o =
        ⊎_elim
        (λ (low : e ≤ length (outer s.marks p)). few e ps d (shallow low ps o))
        (λ (high : length (outer s.marks p) < e).
        let t = drop_new (claimed rs s.marks (i ∷ p)) e p (λ q j f. ⊎_elim (λ u. inl u) (λ u. inr u.0) (new q j f)) ps d o in
        let u = tied e p pre high t.0 t.2 t.3 in
        let fit = pigeons workers (w ∷ u.0) (idle_not_of s w idle u.0 t.0 u.4, u.2) (lt, u.3) in
        let l1 = t.1 in
        let l2 = u.1 in
        omega arith)
        (split e (length (outer s.marks p)))
      where
        split : (a b : ℕ) → (a ≤ b) ⊎ (b < a)
        split a b = grind arith

        new : (q : Place) (j : J) → claimed rs s.marks (i ∷ p) q ≡ Open j → WasOpen s.marks q ⊎ (EndsIn p q × (length (outer s.marks p) < length q))
        new q j f = new_deeper s.marks p q j h.nested (claimed_was rs s.marks i p q j f)

        shallow : e ≤ length (outer s.marks p) → (ps : List Place) → AreOpen (claimed rs s.marks (i ∷ p)) e ps → AreOpen s.marks e ps
        shallow low [] o = tt
        shallow low (q ∷ qs) o = (o.0, ⊎_elim (λ u. u) (λ u. let l = u.1 in let lq = o.0 in absurd (omega arith)) (new q o.1.0 o.1.1), shallow low qs o.2)

    pub after_few : (answers : W → A → Type 0) (e : Entry A) → Allowed rs answers workers s e → IsPreferred rs s e → Few workers s.marks → Few workers (after rs s e).marks
    after_few answers (Claim w []) ok care few = few
    after_few answers (Claim w (i ∷ p)) ok care few =
        ⊎_elim
        (λ (t : WasOpen s.marks p).
        let same : opened rs s.marks p ≡ s.marks = opened_open rs rank law top s.marks p t.0 h.nested t.1 in
        few_by rs workers s.marks (claimed rs s.marks (i ∷ p)) (λ q j o. (j, sym (ap (λ (f : Marks J A). f q) same) ∙ claimed_was rs s.marks i p q j o)) few)
        (λ (pre : Prefers rs s.marks p). claim_few w i p ok.is_worker ok.runs_none pre few)
        care
    after_few answers (Finish w v) ok care few = go (s.running w)
      where
        go : (r : Option Place) → Few workers (finish_of rs s w v r).marks
        go None = few
        go (Some []) = few
        go (Some (i ∷ p)) = few_by rs workers s.marks (finished rs s.marks (i ∷ p) v) (λ q j o. (j, finished_was rs s.marks i p v q j o)) few

  module _ (workers : ℕ) where
    start_few : 0 < workers → Few {A = A} workers (start_mark top)
    start_few lt e [] d o = omega arith
    start_few lt e (p ∷ []) d o = omega arith
    start_few lt e (p ∷ q ∷ qs) d o = absurd (d.0.0 (at_top p o.1.0 o.1.1 ∙ sym (at_top q o.2.1.0 o.2.1.1)))
      where
        at_top : (p : Place) (j : J) → start_mark {A = A} top p ≡ Open j → p ≡ []
        at_top [] j e = refl
        at_top (i ∷ p) j e = absurd (cc)

    from_few : (answers : W → A → Type 0) (s : State J A) (es : List (Entry A)) → Keeps rs top workers s → LegalFrom rs answers workers s es → ArePreferredFrom rs s es → Few workers s.marks → Few workers (state_from rs s es).marks
    from_few answers s [] h ok care few = few
    from_few answers s (e ∷ es) h ok care few = from_few answers (after rs s e) es (after_keeps rs rank law top workers answers s e h ok.0) ok.1 care.1 (after_few workers s h answers e ok.0 care.0 few)

    pub journal_few : (answers : W → A → Type 0) (es : List (Entry A)) → 0 < workers → Legal rs answers workers top es → ArePreferredFrom rs (start top) es → Few workers (state rs top es).marks
    journal_few answers es lt legal care = from_few answers (start top) es (start_keeps rs rank law top workers) legal care (start_few lt)
