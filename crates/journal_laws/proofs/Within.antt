-- Marks that stand at places of numbers below a bound, with answers and open jobs of which something holds.
use Rattle.std.proofs.Common.{◌≡◌, ◌≢◌, ℕ, ◌<◌, Bool, true, false, cond, Option, Some, None, [], ◌∷◌, refl, sym, ◌∙◌, subst, ⊎_elim}
use Rattle.nested_jobs.specs.Rules.{Place, Task, Work, Call, Rules, Values}
use Rattle.nested_jobs.specs.Marks.{Mark, Free, Busy, Open, Done, Marks, put, values}
use Rattle.nested_jobs.specs.Steps.{begin_one, begins, claimed, close_as, close_one, closed, ends, finished, is_quiet, open_one, opened, opens, task_at}
use Rattle.nested_jobs.specs.Journals.{start_mark}
use Rattle.journal_laws.proofs.Weighing.{AreBelow}
use Rattle.journal_laws.proofs.Writes.{done_by, put_at, task_open}

module _ {J W A : Type 0} (rs : Rules J W A) (b : ℕ) (P : A → Type 0) (R : J → Type 0) where
  -- where the answers of a job are such, its items that have a task have numbers below the bound
  abbrev pub AreFew : Type 0
  AreFew = (job : J) (v : Values A) → ((i : ℕ) (a : A) → v i ≡ Some a → P a) → (i : ℕ) (t : Task J W) → rs.rule job v i ≡ Some t → i < b

  -- what a job answers is such
  abbrev pub EndSo : Type 0
  EndSo = (job : J) (v : Values A) → P (rs.outcome job v)

  -- what such a job calls is such
  abbrev pub CallsKeep : Type 0
  CallsKeep = (job : J) (v : Values A) (i : ℕ) (d : J) → R job → rs.rule job v i ≡ Some (Call d) → R d

  pub record IsWithin (m : Marks J A) : Type 0 where
    pub items : (a : Place) → m a ≢ Free → AreBelow b a
    pub answers : (a : Place) (x : A) → m a ≡ Done x → P x
    pub jobs : (a : Place) (j : J) → m a ≡ Open j → R j

  put_within : (m : Marks J A) (a : Place) (y : Mark J A) → IsWithin m → (y ≢ Free → AreBelow b a) → ((x : A) → y ≡ Done x → P x) → ((j : J) → y ≡ Open j → R j) → IsWithin (put m a y)
  put_within m a y h below such job = record {
    items = λ c used. ⊎_elim (λ t. subst (AreBelow b) t.0 (below (λ e. used (t.1 ∙ e)))) (λ t. h.items c (λ e. used (t.1 ∙ e))) (put_at m a y c);
    answers = λ c x done. ⊎_elim (λ t. such x (sym t.1 ∙ done)) (λ t. h.answers c x (sym t.1 ∙ done)) (put_at m a y c);
    jobs = λ c j o. ⊎_elim (λ t. job j (sym t.1 ∙ o)) (λ t. h.jobs c j (sym t.1 ∙ o)) (put_at m a y c);
  }

  same_within : (m : Marks J A) (a : Place) (y : Mark J A) → IsWithin m → m a ≡ y → IsWithin (put m a y)
  same_within m a y h e = put_within m a y h (λ used. h.items a (λ f. used (sym e ∙ f))) (λ x done. h.answers a x (e ∙ done)) (λ j o. h.jobs a j (e ∙ o))

  module _ (few : AreFew) (keep : CallsKeep) where
    of_job : (m : Marks J A) (i : ℕ) (p : Place) (t : Task J W) → IsWithin m → task_at rs m i p ≡ Some t → AreBelow b (i ∷ p)
    of_job m i p t h e =
        let o = task_open rs m i p t e in (
          few o.0 (values m p) (λ k x is. h.answers (k ∷ p) x (done_by (m (k ∷ p)) x is)) i t o.2,
          h.items p (λ f. let g : m p ≡ Open o.0 = o.1 in cc),
        )

    open_within : (m : Marks J A) (i : ℕ) (p : Place) → IsWithin m → IsWithin (open_one rs m i p)
    open_within m i p h = go (m (i ∷ p)) (task_at rs m i p) refl refl
      where
        go : (x : Mark J A) (t : Option (Task J W)) → m (i ∷ p) ≡ x → task_at rs m i p ≡ t → IsWithin (put m (i ∷ p) (opens x t))
        go Free None e f = same_within m (i ∷ p) Free h e
        go Free (Some (Work work)) e f = same_within m (i ∷ p) Free h e
        go Free (Some (Call job)) e f = put_within m (i ∷ p) (Open job) h (λ used. of_job m i p (Call job) h f) (λ x done. absurd (cc)) (λ j o. let same : job ≡ j = cc in let up = task_open rs m i p (Call job) f in subst R same (keep up.0 (values m p) i job (h.jobs p up.0 up.1) up.2))
        go Busy t e f = same_within m (i ∷ p) Busy h e
        go (Open job) t e f = same_within m (i ∷ p) (Open job) h e
        go (Done answer) t e f = same_within m (i ∷ p) (Done answer) h e

    begin_within : (m : Marks J A) (i : ℕ) (p : Place) → IsWithin m → IsWithin (begin_one rs m i p)
    begin_within m i p h = go (m (i ∷ p)) (task_at rs m i p) refl refl
      where
        go : (x : Mark J A) (t : Option (Task J W)) → m (i ∷ p) ≡ x → task_at rs m i p ≡ t → IsWithin (put m (i ∷ p) (begins x t))
        go Free None e f = same_within m (i ∷ p) Free h e
        go Free (Some (Work work)) e f = put_within m (i ∷ p) Busy h (λ used. of_job m i p (Work work) h f) (λ x done. absurd (cc)) (λ j o. absurd (cc))
        go Free (Some (Call job)) e f = same_within m (i ∷ p) Free h e
        go Busy t e f = same_within m (i ∷ p) Busy h e
        go (Open job) t e f = same_within m (i ∷ p) (Open job) h e
        go (Done answer) t e f = same_within m (i ∷ p) (Done answer) h e

    opened_within : (m : Marks J A) (p : Place) → IsWithin m → IsWithin (opened rs m p)
    opened_within m [] h = h
    opened_within m (i ∷ p) h = open_within (opened rs m p) i p (opened_within m p h)

    pub claimed_within : (m : Marks J A) (a : Place) → IsWithin m → IsWithin (claimed rs m a)
    claimed_within m [] h = h
    claimed_within m (i ∷ p) h = begin_within (opened rs m p) i p (opened_within m p h)

  module _ (end : EndSo) where
    close_within : (m : Marks J A) (p : Place) → IsWithin m → IsWithin (close_one rs m p)
    close_within m p h = go (m p) refl
      where
        shut : (job : J) → m p ≡ Open job → (quiet : Bool) → IsWithin (put m p (cond quiet (Done (rs.outcome job (values m p))) (Open job)))
        shut job e true = put_within m p (Done (rs.outcome job (values m p))) h (λ used. h.items p (λ f. cc)) (λ x done. let same : rs.outcome job (values m p) ≡ x = cc in subst P same (end job (values m p))) (λ j o. absurd (cc))
        shut job e false = same_within m p (Open job) h e

        go : (x : Mark J A) → m p ≡ x → IsWithin (put m p (close_as rs m p x))
        go Free e = same_within m p Free h e
        go Busy e = same_within m p Busy h e
        go (Open job) e = shut job e (is_quiet rs m job p)
        go (Done answer) e = same_within m p (Done answer) h e

    closed_within : (m : Marks J A) (p : Place) → IsWithin m → IsWithin (closed rs m p)
    closed_within m [] h = close_within m [] h
    closed_within m (i ∷ p) h = closed_within (close_one rs m (i ∷ p)) p (close_within m (i ∷ p) h)

    pub finished_within : (m : Marks J A) (a : Place) (answer : A) → P answer → IsWithin m → IsWithin (finished rs m a answer)
    finished_within m [] answer such h = h
    finished_within m (i ∷ p) answer such h = closed_within (put m (i ∷ p) (ends answer (m (i ∷ p)))) p (go (m (i ∷ p)) refl)
      where
        go : (x : Mark J A) → m (i ∷ p) ≡ x → IsWithin (put m (i ∷ p) (ends answer x))
        go Free e = same_within m (i ∷ p) Free h e
        go Busy e = put_within m (i ∷ p) (Done answer) h (λ used. h.items (i ∷ p) (λ f. cc)) (λ x done. let same : answer ≡ x = cc in subst P same such) (λ j o. absurd (cc))
        go (Open job) e = same_within m (i ∷ p) (Open job) h e
        go (Done before) e = same_within m (i ∷ p) (Done before) h e

  pub start_within : (top : J) → R top → IsWithin (start_mark {A = A} top)
  start_within top such = record { items = items; answers = answers; jobs = jobs }
    where
      items : (a : Place) → start_mark {A = A} top a ≢ Free → AreBelow b a
      items [] used = tt
      items (i ∷ p) used = absurd (used refl)

      answers : (a : Place) (x : A) → start_mark {A = A} top a ≡ Done x → P x
      answers [] x done = absurd (cc)
      answers (i ∷ p) x done = absurd (cc)

      jobs : (a : Place) (j : J) → start_mark {A = A} top a ≡ Open j → R j
      jobs [] j o = let same : top ≡ j = cc in subst R same such
      jobs (i ∷ p) j o = absurd (cc)
