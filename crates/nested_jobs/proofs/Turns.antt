-- Claims and closings are single writes, one after the other: what each of these keeps, all of them keep.
use Rattle.std.proofs.Common.{◌≡◌, ◌≢◌, ◌⊎◌, ℕ, Bool, true, false, cond, Option, Some, None, [], ◌∷◌, refl, sym, ◌∙◌, ap, subst, inl, inr}
use Rattle.nested_jobs.specs.Rules.{Place, Task, Work, Call, Rules}
use Rattle.nested_jobs.specs.Marks.{Mark, Free, Busy, Open, Done, Marks, put, values}
use Rattle.nested_jobs.specs.Steps.{task_in, task_at, opens, begins, opened, claimed, is_quiet, close_as, close_one, closed, ends, finished}
use Rattle.nested_jobs.specs.Invariants.{InJob}
use Rattle.nested_jobs.proofs.Places.{put_back}

module _ {J W A : Type 0} (rs : Rules J W A) where
  pub in_job : (m : Marks J A) (i : ℕ) (p : Place) (t : Task J W) → task_at rs m i p ≡ Some t → InJob rs m i p t
  in_job m i p t h = go (m p) refl h
    where
      go : (x : Mark J A) → m p ≡ x → task_in rs x (values m p) i ≡ Some t → InJob rs m i p t
      go Free e f = absurd (cc)
      go Busy e f = absurd (cc)
      go (Open j) e f = record { job = j; is_open = e; has_task = f }
      go (Done a) e f = absurd (cc)

  pub task_is : (m : Marks J A) (i : ℕ) (p : Place) (t : Task J W) → InJob rs m i p t → task_at rs m i p ≡ Some t
  task_is m i p t h = ap (λ (x : Mark J A). task_in rs x (values m p) i) h.is_open ∙ h.has_task

  -- ---- what a single write keeps

  abbrev pub OpensKeep : (Marks J A → Type 0) → Type 0
  OpensKeep P = (m : Marks J A) (i : ℕ) (p : Place) (d : J) → P m → m (i ∷ p) ≡ Free → InJob rs m i p (Call d) → P (put m (i ∷ p) (Open d))

  abbrev pub BeginsKeep : (Marks J A → Type 0) → Type 0
  BeginsKeep P = (m : Marks J A) (i : ℕ) (p : Place) (work : W) → P m → m (i ∷ p) ≡ Free → InJob rs m i p (Work work) → P (put m (i ∷ p) Busy)

  abbrev pub ClosesKeep : (Marks J A → Type 0) → Type 0
  ClosesKeep P = (m : Marks J A) (p : Place) (j : J) → P m → m p ≡ Open j → is_quiet rs m j p ≡ true → P (put m p (Done (rs.outcome j (values m p))))

  -- ---- all of them keep

  pub opened_keeps : (P : Marks J A → Type 0) → OpensKeep P → (m : Marks J A) (p : Place) → P m → P (opened rs m p)
  opened_keeps P step m [] h = h
  opened_keeps P step m (i ∷ p) h = go (opened rs m p) (opened_keeps P step m p h) (opened rs m p (i ∷ p)) (task_at rs (opened rs m p) i p) refl refl
    where
      go : (n : Marks J A) → P n → (x : Mark J A) (o : Option (Task J W)) → n (i ∷ p) ≡ x → task_at rs n i p ≡ o → P (put n (i ∷ p) (opens x o))
      go n b Free None e f = subst P (sym (put_back n (i ∷ p) Free e)) b
      go n b Free (Some (Work work)) e f = subst P (sym (put_back n (i ∷ p) Free e)) b
      go n b Free (Some (Call d)) e f = step n i p d b e (in_job n i p (Call d) f)
      go n b Busy o e f = subst P (sym (put_back n (i ∷ p) Busy e)) b
      go n b (Open d) o e f = subst P (sym (put_back n (i ∷ p) (Open d) e)) b
      go n b (Done a) o e f = subst P (sym (put_back n (i ∷ p) (Done a) e)) b

  pub claimed_keeps : (P : Marks J A → Type 0) → OpensKeep P → BeginsKeep P → (m : Marks J A) (a : Place) → P m → P (claimed rs m a)
  claimed_keeps P step last m [] h = h
  claimed_keeps P step last m (i ∷ p) h = go (opened rs m p) (opened_keeps P step m p h) (opened rs m p (i ∷ p)) (task_at rs (opened rs m p) i p) refl refl
    where
      go : (n : Marks J A) → P n → (x : Mark J A) (o : Option (Task J W)) → n (i ∷ p) ≡ x → task_at rs n i p ≡ o → P (put n (i ∷ p) (begins x o))
      go n b Free None e f = subst P (sym (put_back n (i ∷ p) Free e)) b
      go n b Free (Some (Work work)) e f = last n i p work b e (in_job n i p (Work work) f)
      go n b Free (Some (Call d)) e f = subst P (sym (put_back n (i ∷ p) Free e)) b
      go n b Busy o e f = subst P (sym (put_back n (i ∷ p) Busy e)) b
      go n b (Open d) o e f = subst P (sym (put_back n (i ∷ p) (Open d) e)) b
      go n b (Done a) o e f = subst P (sym (put_back n (i ∷ p) (Done a) e)) b

  -- a job is closed where it is open and quiet, and else nothing changes
  pub close_cases : (m : Marks J A) (p : Place) → ((j : J) × (m p ≡ Open j) × (is_quiet rs m j p ≡ true) × (close_one rs m p ≡ put m p (Done (rs.outcome j (values m p)))))
      ⊎ ((close_one rs m p ≡ m) × ((j : J) → m p ≡ Open j → is_quiet rs m j p ≡ false))
  close_cases m p = go (m p) refl
    where
      still : (x : Mark J A) → m p ≡ x → ((j : J) → x ≢ Open j) → (put m p x ≡ m) × ((j : J) → m p ≡ Open j → is_quiet rs m j p ≡ false)
      still x e shut = (put_back m p x e, λ j f. absurd (shut j (sym e ∙ f)))

      shut : (j : J) → m p ≡ Open j → (b : Bool) → is_quiet rs m j p ≡ b
          → ((k : J) × (m p ≡ Open k) × (is_quiet rs m k p ≡ true) × (put m p (cond b (Done (rs.outcome j (values m p))) (Open j)) ≡ put m p (Done (rs.outcome k (values m p)))))
          ⊎ ((put m p (cond b (Done (rs.outcome j (values m p))) (Open j)) ≡ m) × ((k : J) → m p ≡ Open k → is_quiet rs m k p ≡ false))
      shut j e true q = inl (j, e, q, refl)
      shut j e false q = inr (put_back m p (Open j) e, λ k f. let same : j ≡ k = (let u : Open j ≡ m p = sym e in cc) in subst (λ (z : J). is_quiet rs m z p ≡ false) same q)

      go : (x : Mark J A) → m p ≡ x
          → ((j : J) × (m p ≡ Open j) × (is_quiet rs m j p ≡ true) × (put m p (close_as rs m p x) ≡ put m p (Done (rs.outcome j (values m p)))))
          ⊎ ((put m p (close_as rs m p x) ≡ m) × ((j : J) → m p ≡ Open j → is_quiet rs m j p ≡ false))
      go Free e = inr (still Free e (λ j f. cc))
      go Busy e = inr (still Busy e (λ j f. cc))
      go (Open j) e = shut j e (is_quiet rs m j p) refl
      go (Done a) e = inr (still (Done a) e (λ j f. cc))

  pub close_keeps : (P : Marks J A → Type 0) → ClosesKeep P → (m : Marks J A) (p : Place) → P m → P (close_one rs m p)
  close_keeps P step m p h =
      elim (close_cases m p) [
        | inl t ↦ subst P (sym t.3) (step m p t.0 h t.1 t.2)
        | inr t ↦ subst P (sym t.0) h
      ]

  pub closed_keeps : (P : Marks J A → Type 0) → ClosesKeep P → (m : Marks J A) (p : Place) → P m → P (closed rs m p)
  closed_keeps P step m [] h = close_keeps P step m [] h
  closed_keeps P step m (i ∷ p) h = closed_keeps P step (close_one rs m (i ∷ p)) p (close_keeps P step m (i ∷ p) h)

  -- a finish ends its item where that is busy, and then closes jobs
  pub finished_keeps : (P : Marks J A → Type 0) → ClosesKeep P → (m : Marks J A) (i : ℕ) (p : Place) (a : A) → P m → (m (i ∷ p) ≡ Busy → P (put m (i ∷ p) (Done a))) → P (finished rs m (i ∷ p) a)
  finished_keeps P step m i p a h last = closed_keeps P step (put m (i ∷ p) (ends a (m (i ∷ p)))) p (go (m (i ∷ p)) refl)
    where
      still : (x : Mark J A) → m (i ∷ p) ≡ x → P (put m (i ∷ p) x)
      still x e = subst P (sym (put_back m (i ∷ p) x e)) h

      go : (x : Mark J A) → m (i ∷ p) ≡ x → P (put m (i ∷ p) (ends a x))
      go Free e = still Free e
      go Busy e = last e
      go (Open d) e = still (Open d) e
      go (Done b) e = still (Done b) e
