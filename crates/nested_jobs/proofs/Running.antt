-- In each state of a legal journal the items that are busy are those that workers run, each run by one.
use Rattle.std.proofs.Common.{◌≡◌, ◌≢◌, ◌⊎◌, ℕ, ◌<◌, true, false, cond, eqb, Option, Some, None, List, [], ◌∷◌, refl, sym, ◌∙◌, ap, subst, inl, inr, ⊎_elim}
use Rattle.std.proofs.lemmas.Bool.{eqb-true, eq-eqb}
use Rattle.nested_jobs.specs.Rules.{Place, Rules}
use Rattle.nested_jobs.specs.Marks.{Mark, Free, Busy, Open, Done, Marks, put, values}
use Rattle.nested_jobs.specs.Steps.{opened, claimed, closed, ends, finished}
use Rattle.nested_jobs.specs.Journals.{Entry, Claim, Finish, State, assign, start_mark, start, finish_of, after, state_from, state, MayClaim, Allowed, LegalFrom, Legal}
use Rattle.nested_jobs.specs.Meanings.{Lawful}
use Rattle.nested_jobs.specs.Invariants.{Keeps}
use Rattle.nested_jobs.proofs.Places.{put_at, put_other}
use Rattle.nested_jobs.proofs.Turns.{opened_keeps, claimed_keeps, closed_keeps}
use Rattle.nested_jobs.proofs.Nesting.{top_not_busy, claimed_nested, finished_nested, start_nested}
use Rattle.nested_jobs.proofs.Unsettled.{claimed_unsettled, finished_unsettled, start_unsettled}

pub assign_at : (running : ℕ → Option Place) (w : ℕ) (r : Option Place) (u : ℕ) → ((w ≡ u) × (assign running w r u ≡ r)) ⊎ ((w ≢ u) × (assign running w r u ≡ running u))
assign_at running w r u =
    elim (eqb w u) as (λ b. eqb w u ≡ b → ((w ≡ u) × (cond b r (running u) ≡ r)) ⊎ ((w ≢ u) × (cond b r (running u) ≡ running u))) [
      | true ↦ λ e. inl (eqb-true w u e, refl)
      | false ↦ λ e. inr ((λ f. let t = eq-eqb w u f in cc), refl)
    ]
    refl

pub some_is : (a b : Place) → Some a ≡ Some b → a ≡ b
some_is a b h = cc

module _ {J W A : Type 0} (rs : Rules J W A) where
  -- a claim changes free items alone
  pub claimed_stays : (m : Marks J A) (a b : Place) (x : Mark J A) → x ≢ Free → m b ≡ x → claimed rs m a b ≡ x
  claimed_stays m a b x used e = claimed_keeps rs (λ n. n b ≡ x)
      (λ n i p d h free job. put_other n (i ∷ p) (Open d) b (λ f. used (sym h ∙ (ap n (sym f) ∙ free))) ∙ h)
      (λ n i p work h free job. put_other n (i ∷ p) Busy b (λ f. used (sym h ∙ (ap n (sym f) ∙ free))) ∙ h)
      m a e

  -- it makes no other item busy
  pub claimed_busy : (m : Marks J A) (a b : Place) → claimed rs m a b ≡ Busy → (a ≡ b) ⊎ (m b ≡ Busy)
  claimed_busy m [] b h = inr h
  claimed_busy m (i ∷ p) b h =
      ⊎_elim (λ t. inl t.0)
      (λ t. inr (opened_keeps rs (λ n. n b ≡ Busy → m b ≡ Busy)
      (λ n k q d before free job o. ⊎_elim (λ u. let v : Open d ≡ Busy = sym u.1 ∙ o in absurd (cc)) (λ u. before (sym u.1 ∙ o)) (put_at n (k ∷ q) (Open d) b))
      m p (λ e. e) (sym t.1 ∙ h)))
      (put_at (opened rs m p) (i ∷ p) _ b)

  closed_busy : (m : Marks J A) (p b : Place) → closed rs m p b ≡ Busy → m b ≡ Busy
  closed_busy m p b = closed_keeps rs (λ n. n b ≡ Busy → m b ≡ Busy)
      (λ n q j before o quiet e. ⊎_elim (λ u. let v : Done (rs.outcome j (values n q)) ≡ Busy = sym u.1 ∙ e in absurd (cc)) (λ u. before (sym u.1 ∙ e)) (put_at n q (Done (rs.outcome j (values n q))) b))
      m p (λ e. e)

  ends_not_busy : (x : Mark J A) (v : A) → ends v x ≡ Busy → ⊥
  ends_not_busy Free v h = cc
  ends_not_busy Busy v h = cc
  ends_not_busy (Open d) v h = cc
  ends_not_busy (Done a) v h = cc

  -- a finish makes no item busy, and its own is busy no more
  pub finished_busy : (m : Marks J A) (i : ℕ) (p : Place) (v : A) (b : Place) → finished rs m (i ∷ p) v b ≡ Busy → ((i ∷ p) ≢ b) × (m b ≡ Busy)
  finished_busy m i p v b h =
      let y : Mark J A = ends v (m (i ∷ p)) in
      let was = closed_busy (put m (i ∷ p) y) p b h in
      ⊎_elim (λ t. absurd (ends_not_busy (m (i ∷ p)) v (sym t.1 ∙ was))) (λ t. (t.0, sym t.1 ∙ was)) (put_at m (i ∷ p) y b)

  -- every other item that is busy stays so
  pub finished_stays : (m : Marks J A) (i : ℕ) (p : Place) (v : A) (b : Place) → (i ∷ p) ≢ b → m b ≡ Busy → finished rs m (i ∷ p) v b ≡ Busy
  finished_stays m i p v b ne h =
      closed_keeps rs (λ n. n b ≡ Busy)
      (λ n q j e o quiet. put_other n q (Done (rs.outcome j (values n q))) b (λ f. let u : n b ≡ Open j = ap n (sym f) ∙ o in cc) ∙ e)
      (put m (i ∷ p) (ends v (m (i ∷ p)))) p (put_other m (i ∷ p) (ends v (m (i ∷ p))) b ne ∙ h)

module _ {J W A : Type 0} (rs : Rules J W A) (rank : J → ℕ) (law : Lawful rs rank) (top : J) (workers : ℕ) where
  pub start_keeps : Keeps {A = A} rs top workers (start top)
  start_keeps = record {
    nested = start_nested rs rank law top;
    unsettled = start_unsettled rs rank law top;
    is_run = none;
    is_busy = λ w a e. absurd (cc);
    by_one = λ w u a e f. absurd (cc);
  }
    where
      none : (a : Place) → start_mark {A = A} top a ≡ Busy → (w : ℕ) × (w < workers) × (◌≡◌ {A = Option Place} None (Some a))
      none [] e = absurd (cc)
      none (i ∷ p) e = absurd (cc)

  claim_keeps : (s : State J A) (w : ℕ) (a : Place) → Keeps rs top workers s → MayClaim rs workers s w a → Keeps rs top workers (after rs s (Claim w a))
  claim_keeps s w a h ok = record {
    nested = claimed_nested rs rank law top s.marks a h.nested;
    unsettled = claimed_unsettled rs rank law top s.marks a h.nested h.unsettled;
    is_run = λ b e.
        ⊎_elim
        (λ (t : a ≡ b). (w, ok.is_worker, ⊎_elim (λ u. u.1 ∙ ap Some t) (λ u. absurd (u.0 refl)) (assign_at s.running w (Some a) w)))
        (λ t. let c = h.is_run b t in (c.0, c.1, ⊎_elim (λ u. let runs : s.running w ≡ Some b = ap s.running u.0 ∙ c.2 in let rests : s.running w ≡ None = ok.runs_none in absurd (cc)) (λ u. u.1 ∙ c.2) (assign_at s.running w (Some a) c.0)))
        (claimed_busy rs s.marks a b e);
    is_busy = λ u b e.
        ⊎_elim
        (λ t. ap (claimed rs s.marks a) (sym (some_is a b (sym t.1 ∙ e))) ∙ ok.enabled.1)
        (λ t. claimed_stays rs s.marks a b Busy (λ f. cc) (h.is_busy u b (sym t.1 ∙ e)))
        (assign_at s.running w (Some a) u);
    by_one = λ u x b e f.
        ⊎_elim
        (λ t. ⊎_elim (λ z. sym t.0 ∙ z.0) (λ z. absurd (other x b (some_is a b (sym t.1 ∙ e)) (sym z.1 ∙ f))) (assign_at s.running w (Some a) x))
        (λ t. ⊎_elim (λ z. absurd (other u b (some_is a b (sym z.1 ∙ f)) (sym t.1 ∙ e))) (λ z. h.by_one u x b (sym t.1 ∙ e) (sym z.1 ∙ f)) (assign_at s.running w (Some a) x))
        (assign_at s.running w (Some a) u);
  }
    where
      -- no worker runs the item before the claim
      other : (y : ℕ) (b : Place) → a ≡ b → s.running y ≡ Some b → ⊥
      other y b same g = let r : s.marks b ≡ Busy = h.is_busy y b g in let f : s.marks b ≡ Free = ap s.marks (sym same) ∙ ok.enabled.0 in cc

  finish_keeps : (s : State J A) (w i : ℕ) (p : Place) (v : A) → Keeps rs top workers s → s.running w ≡ Some (i ∷ p) → Keeps rs top workers (finish_of rs s w v (Some (i ∷ p)))
  finish_keeps s w i p v h e = record {
    nested = finished_nested rs rank law top s.marks (i ∷ p) v h.nested;
    unsettled = finished_unsettled rs s.marks (i ∷ p) v h.unsettled;
    is_run = λ b f.
        let was = finished_busy rs s.marks i p v b f in
        let c = h.is_run b was.1 in
        (c.0, c.1, ⊎_elim (λ t. absurd (was.0 (some_is (i ∷ p) b (sym e ∙ (ap s.running t.0 ∙ c.2))))) (λ t. t.1 ∙ c.2) (assign_at s.running w None c.0));
    is_busy = λ u b f.
        ⊎_elim
        (λ t. absurd (none_runs b (sym t.1 ∙ f)))
        (λ t. finished_stays rs s.marks i p v b (λ g. t.0 (h.by_one w u (i ∷ p) e (sym t.1 ∙ (f ∙ ap Some (sym g))))) (h.is_busy u b (sym t.1 ∙ f)))
        (assign_at s.running w None u);
    by_one = λ u x b f g.
        ⊎_elim
        (λ t. absurd (none_runs b (sym t.1 ∙ f)))
        (λ t. ⊎_elim (λ z. absurd (none_runs b (sym z.1 ∙ g))) (λ z. h.by_one u x b (sym t.1 ∙ f) (sym z.1 ∙ g)) (assign_at s.running w None x))
        (assign_at s.running w None u);
  }
    where
      none_runs : (b : Place) → ◌≡◌ {A = Option Place} None (Some b) → ⊥
      none_runs b f = cc

  pub after_keeps : (answers : W → A → Type 0) (s : State J A) (e : Entry A) → Keeps rs top workers s → Allowed rs answers workers s e → Keeps rs top workers (after rs s e)
  after_keeps answers s (Claim w a) h ok = claim_keeps s w a h ok
  after_keeps answers s (Finish w v) h ok = subst (λ (r : Option Place). Keeps rs top workers (finish_of rs s w v r)) (sym ok.runs) (go ok.place ok.runs)
    where
      go : (a : Place) → s.running w ≡ Some a → Keeps rs top workers (finish_of rs s w v (Some a))
      go [] e = absurd (top_not_busy rs rank law top s.marks h.nested (h.is_busy w [] e))
      go (i ∷ p) e = finish_keeps s w i p v h e

  pub from_keeps : (answers : W → A → Type 0) (s : State J A) (es : List (Entry A)) → Keeps rs top workers s → LegalFrom rs answers workers s es → Keeps rs top workers (state_from rs s es)
  from_keeps answers s [] h ok = h
  from_keeps answers s (e ∷ es) h ok = from_keeps answers (after rs s e) es (after_keeps answers s e h ok.0) ok.1

  -- each state of a legal journal
  pub journal_keeps : (answers : W → A → Type 0) (es : List (Entry A)) → Legal rs answers workers top es → Keeps rs top workers (state rs top es)
  journal_keeps answers es ok = from_keeps answers (start top) es start_keeps ok
