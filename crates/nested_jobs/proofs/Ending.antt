-- A legal journal goes on until the top job is done, and no further.
use Rattle.std.proofs.Common.{◌≡◌, ◌⊎◌, ℕ, ◌<◌, false, Option, Some, None, [], ◌∷◌, ◌++◌, refl, sym, inl, inr, ⊎_elim, append_assoc}
use Rattle.nested_jobs.specs.Rules.{Place, Rules}
use Rattle.nested_jobs.specs.Marks.{Mark, Free, Busy, Open, Done}
use Rattle.nested_jobs.specs.Steps.{IsEnabled, is_quiet}
use Rattle.nested_jobs.specs.Journals.{State, IsEnded}
use Rattle.nested_jobs.specs.Meanings.{Lawful}
use Rattle.nested_jobs.specs.Invariants.{Keeps}
use Rattle.nested_jobs.specs.Laws.{GoesOn}
use Rattle.nested_jobs.proofs.Nesting.{top_open, of_busy, top_not_busy, top_not_free}
use Rattle.nested_jobs.proofs.Unsettled.{unsettled_not_quiet}
use Rattle.nested_jobs.proofs.Finding.{Found, found, ready_enabled, enabled_by}

module _ {J W A : Type 0} (rs : Rules J W A) (rank : J → ℕ) (law : Lawful rs rank) (top : J) where
  module _ (workers : ℕ) (s : State J A) (h : Keeps rs top workers s) where
    pub open_goes_on : (p : Place) (j : J) → s.marks p ≡ Open j → GoesOn rs workers s p
    open_goes_on p j o = go (found rs rank law top s.marks p j h.nested h.unsettled o)
      where
        go : Found rs s.marks p → GoesOn rs workers s p
        go (Found.Is_busy i way e) =
            let c = h.is_run (i ∷ way ++ p) e in
            record { place = i ∷ way ++ p; way = i ∷ way; is_below = refl; goes_on = inr (c.0, (c.1, c.2)) }
        go (Found.Is_ready i way ready) =
            let t = ready_enabled rs rank law top s.marks i (way ++ p) h.nested ready in
            record { place = t.0 ++ (i ∷ way ++ p); way = t.0 ++ i ∷ way; is_below = sym (append_assoc t.0 (i ∷ way) p); goes_on = inl t.1 }

    -- once the top job is done, no job is open
    pub done_ends : (a : A) → s.marks [] ≡ Done a → IsEnded rs workers s
    done_ends a done = record {
      none_enabled = λ b e. let t = enabled_by rs rank law top s.marks b h.nested e in shut t.place t.ready.in_job.job t.ready.in_job.is_open;
      none_run = λ w lt. go (s.running w) refl;
    }
      where
        shut : (p : Place) (j : J) → s.marks p ≡ Open j → ⊥
        shut p j o = let t = top_open rs rank law top s.marks p j h.nested o in let f : s.marks [] ≡ Open t.0 = t.1 in cc

        busy : (b : Place) → s.marks b ≡ Busy → ⊥
        busy [] e = top_not_busy rs rank law top s.marks h.nested e
        busy (i ∷ p) e = let t = (of_busy rs rank law top s.marks i p h.nested e).1 in shut p t.job t.is_open

        go : {w : ℕ} (r : Option Place) → s.running w ≡ r → s.running w ≡ None
        go None e = e
        go {w} (Some b) e = absurd (busy b (h.is_busy w b e))

    -- the top job is open or done
    pub top_cases : ((j : J) × (s.marks [] ≡ Open j)) ⊎ ((a : A) × (s.marks [] ≡ Done a))
    top_cases = go (s.marks []) refl
      where
        go : (x : Mark J A) → s.marks [] ≡ x → ((j : J) × (s.marks [] ≡ Open j)) ⊎ ((a : A) × (s.marks [] ≡ Done a))
        go Free e = absurd (top_not_free rs rank law top s.marks h.nested e)
        go Busy e = absurd (top_not_busy rs rank law top s.marks h.nested e)
        go (Open j) e = inl (j, e)
        go (Done a) e = inr (a, e)

    pub ended_done : IsEnded rs workers s → (a : A) × (s.marks [] ≡ Done a)
    ended_done ended =
        ⊎_elim
        (λ t. let g = open_goes_on [] t.0 t.1 in
        absurd (⊎_elim (λ e. ended.none_enabled g.place e) (λ u. let none : s.running u.0 ≡ None = ended.none_run u.0 u.1.0 in let some : s.running u.0 ≡ Some g.place = u.1.1 in cc) g.goes_on))
        (λ t. t)
        top_cases

    pub not_stuck : ¬ (IsEnded rs workers s) → GoesOn rs workers s []
    not_stuck more = ⊎_elim (λ t. open_goes_on [] t.0 t.1) (λ t. absurd (more (done_ends t.0 t.1))) top_cases

    pub none_runs_enabled : ¬ (IsEnded rs workers s) → ((w : ℕ) → w < workers → s.running w ≡ None) → (a : Place) × IsEnabled rs s.marks a
    none_runs_enabled more rest =
        let g = not_stuck more in
        (g.place, ⊎_elim (λ e. e) (λ u. let none : s.running u.0 ≡ None = rest u.0 u.1.0 in let some : s.running u.0 ≡ Some g.place = u.1.1 in absurd (cc)) g.goes_on)

    pub open_not_quiet : (p : Place) (j : J) → s.marks p ≡ Open j → is_quiet rs s.marks j p ≡ false
    open_not_quiet p j o = unsettled_not_quiet rs rank law top s.marks p j h.nested o (h.unsettled p j o)
