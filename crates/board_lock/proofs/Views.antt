-- All views together, where one of them changes.
use Rattle.std.proofs.Common.{◌≡◌, ◌≢◌, ℕ, ◌<◌, ◌≤◌, ◌+◌, ⊎_elim, inl, inr, Bool, true, Option, Some, List, ◌++◌, length, set, All, sym, ◌∙◌, ap, subst, arith, append_assoc, append-nil}
use mathlib.Core.Option.{some, some-injective}
use lib.ListN.{get_elem?}
use native.Mathlib.Decide.{ℕ_discrete}
use Rattle.std.specs.Global.{Box}
use Rattle.atomic_table.specs.Table.{State}
use Rattle.atomic_table.proofs.Lists.{at_set, set_here, set_else}
use Rattle.board_lock.specs.declared.view.Phase.TheVariants.{Starting, Holding, Spent}
use Rattle.board_lock.specs.declared.view.View.{View}
use Rattle.board_lock.specs.Meant.{Meant, entries_of, Begins}
use Rattle.board_lock.specs.Passes.{Finds}
use Rattle.board_lock.specs.Rule.{Has, Told, Shows, Fits, Shares, Fresh, first_view}
use Rattle.board_lock.proofs.Entries.{entries-append, entries_other, begins_more}
use Rattle.board_lock.proofs.Phases.{phase_cases, only_one, at_within}

-- what is told after a step of one number
abbrev pub told_after : {K E P : Type 0} → Told K E P → List E → (ℕ → List P) → Bool → Told K E P
told_after t added lent over = record t { tail = t.tail ++ added; lent = lent; over = over }

module _ {S K E P : Type 0} (m : Meant S K E P) where
  -- what a view that isn't spent knows
  pub fit_of : (t : Told K E P) (views : List (View S K E P)) (id : ℕ) (v : View S K E P) → Shares m t views → get_elem? views id ≡ some v → (v.phase ≡ Spent → ⊥) → Fits m t v
  fit_of t views id v h at live = ⊎_elim (λ spent. absurd (live spent)) (λ f. f) (h.fits id v at)

  pub fresh_starting : (about : S) (workers : ℕ) (s : State (Option (Box S)) (View S K E P)) (id : ℕ) (v : View S K E P) → Fresh m about workers s → get_elem? s.views id ≡ some v → v.phase ≡ Starting
  fresh_starting about workers s id v h at = sym (ap (λ (x : View S K E P). x.phase) (only_one (first_view m about workers) id v (ap (λ (vs : List (View S K E P)). get_elem? vs id) (sym h.views_is) ∙ at)).1)

  -- a state that is what was told is found so by each view
  pub finds_of : (t : Told K E P) (views : List (View S K E P)) (v : View S K E P) (x : S) → Shares m t views → Fits m t v → Shows m t x → Finds m v.known x
  finds_of t views v x h f shows =
      record {
        sound = f.sound_is;
        key = ap Some shows.key ∙ sym f.key_is;
        seen = subst (λ (l : List E). Begins v.known.seen l) (sym shows.journal) f.seen_is;
        tail = t.tail;
        opening = shows.journal ∙ ap (λ (l : List E). l ++ t.tail) (sym f.opening_is);
        own = f.own_is;
        others = λ n above. h.none_above n (subst (λ (k : ℕ). k ≤ n) f.workers_is above);
        lent = λ k lt. f.lent_is k lt ∙ sym (shows.lent (v.known.number + k));
        unlent = λ n above. shows.lent n ∙ h.unlent_above n (subst (λ (k : ℕ). k ≤ n) f.workers_is above);
        over = λ e. shows.over ∙ f.over_is e;
      }

  pub apart_set : (t : Told K E P) (views : List (View S K E P)) (id : ℕ) (v w : View S K E P) → Shares m t views → get_elem? views id ≡ some v → ((n : ℕ) → Has w n → Has v n)
      → (i j n : ℕ) (u x : View S K E P) → get_elem? (set views id w) i ≡ some u → get_elem? (set views id w) j ≡ some x → Has u n → Has x n → i ≡ j
  apart_set t views id v w h at fewer i j n u x e f hu hx =
      ⊎_elim
      (λ a. ⊎_elim (λ r. a.0 ∙ sym r.0) (λ r. a.0 ∙ h.apart id j n v x at r.1 (fewer n (subst (λ (y : View S K E P). Has y n) (sym a.1) hu)) hx) (at_set views id j w x f))
      (λ a. ⊎_elim (λ r. h.apart i id n u v a.1 at hu (fewer n (subst (λ (y : View S K E P). Has y n) (sym r.1) hx)) ∙ sym r.0) (λ r. h.apart i j n u x a.1 r.1 hu hx) (at_set views id j w x f))
      (at_set views id i w u e)

  -- each number stands in some view still
  pub each_set : (t : Told K E P) (views : List (View S K E P)) (id : ℕ) (v w : View S K E P) → Shares m t views → get_elem? views id ≡ some v → ((n : ℕ) → Has v n → Has w n)
      → (n : ℕ) → n < t.workers → (i : ℕ) × (u : View S K E P) × (get_elem? (set views id w) i ≡ some u) × Has u n
  each_set t views id v w h at more n below =
      let e = h.each n below in
      elim (ℕ_discrete e.0 id) [
        | yes same ↦
            let here : e.1 ≡ v = some-injective e.1 v (sym e.2 ∙ (ap (get_elem? views) same ∙ at)) in
            (id, w, set_here views id w (at_within views id v at), more n (subst (λ (y : View S K E P). Has y n) here e.3))
        | no other ↦ (e.0, e.1, set_else views id e.0 w other ∙ e.2, e.3)
      ]

  -- one view is replaced by one with the same numbers
  pub shares_set : (t : Told K E P) (views : List (View S K E P)) (id : ℕ) (v w : View S K E P) → Shares m t views → get_elem? views id ≡ some v → Fits m t w → ((n : ℕ) → Has w n → Has v n) → ((n : ℕ) → Has v n → Has w n) → Shares m t (set views id w)
  shares_set t views id v w h at fit fewer more = record {
    fits = λ i u e. ⊎_elim (λ a. inr (subst (λ (x : View S K E P). Fits m t x) a.1 fit)) (λ a. h.fits i u a.1) (at_set views id i w u e);
    apart = apart_set t views id v w h at fewer;
    each = each_set t views id v w h at more;
    none_above = h.none_above;
    unlent_above = h.unlent_above;
  }

  -- what an idle view knows stays true after a step of a number that it hasn't
  fits_after : (t : Told K E P) (low : ℕ) (added : List E) (lent : ℕ → List P) (over : Bool) (u : View S K E P) → Fits m t u
      → All (λ e. m.worker e ≡ low) added → (t.over ≡ true → over ≡ true) → ((n : ℕ) → n ≢ low → lent n ≡ t.lent n)
      → ((n : ℕ) → u.known.number ≤ n → n < u.known.number + length u.known.own → n ≢ low) → (u.phase ≡ Holding → ⊥) → Fits m (told_after t added lent over) u
  fits_after t low added lent over u f mine still same others idle =
      record {
        key_is = f.key_is;
        opening_is = f.opening_is;
        workers_is = f.workers_is;
        sound_is = f.sound_is;
        seen_is = subst (λ (x : List E). Begins u.known.seen x) (append_assoc t.opening t.tail added) (begins_more u.known.seen (t.opening ++ t.tail) added f.seen_is);
        own_is = λ k lt.
            let number : ℕ = u.known.number + k in
            let other : number ≢ low = others number (omega arith) (omega arith) in
            f.own_is k lt ∙ (sym (append-nil (entries_of m.worker number t.tail)) ∙ (ap (λ (l : List E). entries_of m.worker number t.tail ++ l) (sym (entries_other m.worker number low added mine other)) ∙ sym (entries-append m.worker number t.tail added)));
        lent_is = λ k lt.
            let number : ℕ = u.known.number + k in
            let other : number ≢ low = others number (omega arith) (omega arith) in
            f.lent_is k lt ∙ sym (same number other);
        over_is = λ yes. still (f.over_is yes);
        found_is = λ holds. absurd (idle holds);
      }

  -- one number takes a step, of which the other views know nothing
  pub shares_grow : (t : Told K E P) (added : List E) (lent : ℕ → List P) (over : Bool) (views : List (View S K E P)) (id : ℕ) (v w : View S K E P) → Shares m t views → get_elem? views id ≡ some v
      → Has v v.known.number → v.known.number < t.workers → All (λ e. m.worker e ≡ v.known.number) added → (t.over ≡ true → over ≡ true) → ((n : ℕ) → n ≢ v.known.number → lent n ≡ t.lent n)
      → ((i : ℕ) (u : View S K E P) → i ≢ id → get_elem? views i ≡ some u → u.phase ≢ Holding)
      → Fits m (told_after t added lent over) w → ((n : ℕ) → Has w n → Has v n) → ((n : ℕ) → Has v n → Has w n) → Shares m (told_after t added lent over) (set views id w)
  shares_grow t added lent over views id v w h at low inside mine still same alone fit fewer more = record {
    fits = λ i u e.
        ⊎_elim
        (λ a. inr (subst (λ (x : View S K E P). Fits m (told_after t added lent over) x) a.1 fit))
        (λ a. elim (phase_cases u.phase) [
          | inl spent ↦ inl spent
          | inr live ↦
              let f = fit_of t views i u h a.1 live in
              inr (fits_after t v.known.number added lent over u f mine still same
              (λ n from to equal. a.0 (h.apart i id n u v a.1 at (live, from, to) (subst (λ (x : ℕ). Has v x) (sym equal) low)))
              (alone i u a.0 a.1))
        ])
        (at_set views id i w u e);
    apart = apart_set t views id v w h at fewer;
    each = each_set t views id v w h at more;
    none_above = λ n above. entries-append m.worker n t.tail added ∙ (ap (λ (l : List E). l ++ entries_of m.worker n added) (h.none_above n above) ∙ entries_other m.worker n v.known.number added mine (omega arith));
    unlent_above = λ n above. same n (omega arith) ∙ h.unlent_above n above;
  }
