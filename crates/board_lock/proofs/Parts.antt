-- A view is cut in two, and two views are made one.
use Rattle.std.proofs.Common.{◌≡◌, ◌≢◌, ℕ, zero, suc, ◌<◌, ◌+◌, ◌⊎◌, ⊎_elim, inl, inr, Bool, true, false, ◌||◌, cond, Option, List, [], ◌∷◌, ◌++◌, length, get_or, set, refl, sym, ◌∙◌, ap, subst, arith, length-append, length-drop, append_assoc, lt_of_not-le}
use Rattle.std.proofs.lemmas.Bool.{lt-ltb, le-ltb}
use Rattle.std.proofs.lemmas.List.{length-take, get_or-take, get_or-drop, append_cancel_left}
use Rattle.std.specs.Prelude.{nat_lt}
use mathlib.Core.Option.{some, some-injective, some-ne-none}
use lib.ListN.{get_elem?}
use native.Mathlib.Decide.{dec_le, ℕ_discrete}
use Rattle.std.specs.Global.{Box}
use Rattle.atomic_table.specs.Table.{State, Splits, Joins}
use Rattle.atomic_table.proofs.Lists.{at_set, set_here, set_else, at_longer, at_last}
use Rattle.board_lock.specs.declared.view.Phase.TheVariants.{Open, Spent}
use Rattle.board_lock.specs.declared.view.View.{View}
use Rattle.board_lock.specs.Meant.{Meant, entries_of, Begins}
use Rattle.board_lock.specs.Rule.{Has, Told, Fits, Shares, AtHome, Out, Running, Kept, first_view_part, second_view_part, joined_view, spent_view}
use Rattle.board_lock.proofs.Entries.{entries_within}
use Rattle.board_lock.proofs.Phases.{open_spent, open_holding, starting_open, at_within}
use Rattle.board_lock.proofs.Views.{fit_of, fresh_starting, apart_set}

snoc_cases : {A : Type 0} (l : List A) (a b : A) (j : ℕ) → get_elem? (l ++ a ∷ []) j ≡ some b → (get_elem? l j ≡ some b) ⊎ ((j ≡ length l) × (a ≡ b))
snoc_cases [] a b zero e = inr (refl, some-injective a b e)
snoc_cases [] a b (suc j) e = absurd (some-ne-none b (sym e))
snoc_cases (x ∷ xs) a b zero e = inl e
snoc_cases (x ∷ xs) a b (suc j) e = ⊎_elim (λ a. inl a) (λ a. inr (ap suc a.0, a.1)) (snoc_cases xs a b j e)

get_or-append_cases : {A : Type 0} (l r : List A) (k : ℕ) (d : A) → ((k < length l) × (get_or (l ++ r) k d ≡ get_or l k d)) ⊎ ((j : ℕ) × (k ≡ length l + j) × (get_or (l ++ r) k d ≡ get_or r j d))
get_or-append_cases [] r k d = inr (k, omega arith, refl)
get_or-append_cases (x ∷ xs) r zero d = inl (omega arith, refl)
get_or-append_cases (x ∷ xs) r (suc k) d = ⊎_elim (λ a. let lt = a.0 in inl (omega arith, a.1)) (λ a. let e = a.1 in inr (a.0, omega arith, a.2)) (get_or-append_cases xs r k d)

or_cases : (a b : Bool) → (a || b) ≡ true → (a ≡ true) ⊎ (b ≡ true)
or_cases true b e = inl refl
or_cases false b e = inr e

module _ {S K E P : Type 0} (m : Meant S K E P) where
  module _ (at : ℕ) (v : View S K E P) (positive : 0 < at) (inside : at < length v.known.own) where
    left_has : (n : ℕ) → Has (first_view_part at v) n → Has v n
    left_has n has = let a = has.1 in let b = has.2 in let len = length-take at v.known.own in (has.0, a, omega arith)

    right_has : (n : ℕ) → Has (second_view_part at v) n → Has v n
    right_has n has = let a = has.1 in let b = has.2 in let len = length-drop at v.known.own in (has.0, omega arith, omega arith)

    either_has : (n : ℕ) → Has v n → Has (first_view_part at v) n ⊎ Has (second_view_part at v) n
    either_has n has =
        let a = has.1 in
        let b = has.2 in
        let len = length-take at v.known.own in
        let len' = length-drop at v.known.own in
        elim (dec_le (v.known.number + at) n) [ yes above ↦ inr (has.0, above, omega arith) | no below ↦ inl (let under : n < v.known.number + at = lt_of_not-le below in (has.0, a, omega arith)) ]

    never_both : (n : ℕ) → Has (first_view_part at v) n → Has (second_view_part at v) n → ⊥
    never_both n l r = let a = l.2 in let b = r.1 in let len = length-take at v.known.own in omega arith

    left_fits : (t : Told K E P) → v.phase ≡ Open → Fits m t v → Fits m t (first_view_part at v)
    left_fits t opened f =
        let len = length-take at v.known.own in
        let len' = length-take at v.known.lent in
        let wide = f.sound_is.lists in
        let high = f.sound_is.below in
        record {
          key_is = f.key_is;
          opening_is = f.opening_is;
          workers_is = f.workers_is;
          sound_is = record {
            some = omega arith;
            below = omega arith;
            lists = omega arith;
            past = f.sound_is.past;
            begun = f.sound_is.begun;
            mine = λ k lt. get_or-take at v.known.own k [] (omega arith) ∙ f.sound_is.mine k (omega arith);
          };
          seen_is = f.seen_is;
          own_is = λ k lt. get_or-take at v.known.own k [] (omega arith) ∙ f.own_is k (omega arith);
          lent_is = λ k lt. get_or-take at v.known.lent k [] (omega arith) ∙ f.lent_is k (omega arith);
          over_is = f.over_is;
          found_is = λ e. absurd (open_holding (sym opened ∙ e));
        }

    right_fits : (t : Told K E P) → v.phase ≡ Open → Fits m t v → Fits m t (second_view_part at v)
    right_fits t opened f =
        let len = length-drop at v.known.own in
        let len' = length-drop at v.known.lent in
        let wide = f.sound_is.lists in
        let high = f.sound_is.below in
        record {
          key_is = f.key_is;
          opening_is = f.opening_is;
          workers_is = f.workers_is;
          sound_is = record {
            some = omega arith;
            below = omega arith;
            lists = omega arith;
            past = f.sound_is.past;
            begun = f.sound_is.begun;
            mine = λ k lt. get_or-drop at v.known.own k [] ∙ (f.sound_is.mine (at + k) (omega arith) ∙ ap (λ (n : ℕ). entries_of m.worker n f.sound_is.past) (omega arith));
          };
          seen_is = f.seen_is;
          own_is = λ k lt. get_or-drop at v.known.own k [] ∙ (f.own_is (at + k) (omega arith) ∙ ap (λ (n : ℕ). entries_of m.worker n t.tail) (omega arith));
          lent_is = λ k lt. get_or-drop at v.known.lent k [] ∙ (f.lent_is (at + k) (omega arith) ∙ ap t.lent (omega arith));
          over_is = f.over_is;
          found_is = λ e. absurd (open_holding (sym opened ∙ e));
        }

  -- where an open view is cut in two, the state stays where it is
  cut_place : (t : Told K E P) (s : State (Option (Box S)) (View S K E P)) (id : ℕ) (v left right : View S K E P) → get_elem? s.views id ≡ some v → v.phase ≡ Open → left.phase ≡ Open → right.phase ≡ Open
      → AtHome m t s ⊎ Out m s → let after : State (Option (Box S)) (View S K E P) = record { words = s.words; homes = s.homes; views = set s.views id left ++ right ∷ [] } in AtHome m t after ⊎ Out m after
  cut_place t s id v left right at opened l r (inl h) = inl record {
    state = h.state;
    words_is = h.words_is;
    homes_is = h.homes_is;
    shows = h.shows;
    free = λ i u e. ⊎_elim (λ a. ⊎_elim (λ q. inl (sym (ap (λ (y : View S K E P). y.phase) q.1) ∙ l)) (λ q. h.free i u q.1) (at_set s.views id i left u a)) (λ a. inl (sym (ap (λ (y : View S K E P). y.phase) a.1) ∙ r)) (snoc_cases (set s.views id left) right u i e);
  }
  cut_place t s id v left right at opened l r (inr o) =
      let other : o.holder ≢ id = λ e. open_holding (sym opened ∙ (ap (λ (y : View S K E P). y.phase) (some-injective v o.held.0 (sym at ∙ (ap (get_elem? s.views) (sym e) ∙ o.held.1))) ∙ o.held.2)) in
      inr record {
        holder = o.holder;
        held = (o.held.0, at_longer (set s.views id left) (right ∷ []) o.holder o.held.0 (set_else s.views id o.holder left other ∙ o.held.1), o.held.2);
        words_is = o.words_is;
        homes_is = o.homes_is;
        alone = λ i u e. ⊎_elim (λ a. ⊎_elim (λ q. inl (sym (ap (λ (y : View S K E P). y.phase) q.1) ∙ l)) (λ q. o.alone i u q.1) (at_set s.views id i left u a)) (λ a. inl (sym (ap (λ (y : View S K E P). y.phase) a.1) ∙ r)) (snoc_cases (set s.views id left) right u i e);
      }

  -- a number of the right part stands nowhere else
  one_side : (s : State (Option (Box S)) (View S K E P)) (r : Running m s) (id at : ℕ) (v : View S K E P) → get_elem? s.views id ≡ some v → 0 < at → at < length v.known.own
      → (i n : ℕ) (u : View S K E P) → get_elem? (set s.views id (first_view_part at v)) i ≡ some u → Has u n → Has (second_view_part at v) n → ⊥
  one_side s r id at v there positive inside i n u e hu hr =
      ⊎_elim
      (λ a. never_both at v positive inside n (subst (λ (y : View S K E P). Has y n) (sym a.1) hu) hr)
      (λ a. a.0 (r.shares.apart i id n u v a.1 there hu (right_has at v positive inside n hr)))
      (at_set s.views id i (first_view_part at v) u e)

  -- each number stands in one of the parts, or where it stood
  cut_each : (t : Told K E P) (views : List (View S K E P)) (id at : ℕ) (v : View S K E P) → Shares m t views → get_elem? views id ≡ some v → 0 < at → at < length v.known.own
      → (n : ℕ) → n < t.workers → (i : ℕ) × (u : View S K E P) × (get_elem? (set views id (first_view_part at v) ++ second_view_part at v ∷ []) i ≡ some u) × Has u n
  cut_each t views id at v h there positive inside n below =
      let left : View S K E P = first_view_part at v in
      let right : View S K E P = second_view_part at v in
      let e = h.each n below in
      elim (ℕ_discrete e.0 id) [
        | yes same ↦
            let here : e.1 ≡ v = some-injective e.1 v (sym e.2 ∙ (ap (get_elem? views) same ∙ there)) in
            ⊎_elim
            (λ has. (id, left, at_longer (set views id left) (right ∷ []) id left (set_here views id left (at_within views id v there)), has))
            (λ has. (length (set views id left), right, at_last (set views id left) right (length (set views id left)) refl, has))
            (either_has at v positive inside n (subst (λ (y : View S K E P). Has y n) here e.3))
        | no other ↦ (e.0, e.1, at_longer (set views id left) (right ∷ []) e.0 e.1 (set_else views id e.0 left other ∙ e.2), e.3)
      ]

  pub cuts : (about : S) (workers id at : ℕ) (v : View S K E P) → v.phase ≡ Open → 0 < at → at < length v.known.own → Splits (Kept m about workers) id v (first_view_part at v) (second_view_part at v)
  cuts about workers id at v opened positive inside s holds there =
      elim holds [
        | inl fresh ↦ absurd (starting_open (sym (fresh_starting m about workers s id v fresh there) ∙ opened))
        | inr r ↦
            let live : v.phase ≡ Spent → ⊥ = λ e. open_spent (sym opened ∙ e) in
            let f = fit_of m r.told s.views id v r.shares there live in
            let left : View S K E P = first_view_part at v in
            let right : View S K E P = second_view_part at v in
            inr record {
              told = r.told;
              place = cut_place r.told s id v left right there opened opened opened r.place;
              shares = record {
                fits = λ i u e.
                    ⊎_elim
                    (λ a. ⊎_elim (λ q. inr (subst (λ (y : View S K E P). Fits m r.told y) q.1 (left_fits at v positive inside r.told opened f))) (λ q. r.shares.fits i u q.1) (at_set s.views id i left u a))
                    (λ a. inr (subst (λ (y : View S K E P). Fits m r.told y) a.1 (right_fits at v positive inside r.told opened f)))
                    (snoc_cases (set s.views id left) right u i e);
                apart = λ i j n u x e g hu hx.
                    ⊎_elim
                    (λ a. ⊎_elim
                    (λ q. apart_set m r.told s.views id v left r.shares there (left_has at v positive inside) i j n u x a q hu hx)
                    (λ q. absurd (one_side s r id at v there positive inside i n u a hu (subst (λ (y : View S K E P). Has y n) (sym q.1) hx)))
                    (snoc_cases (set s.views id left) right x j g))
                    (λ a. ⊎_elim
                    (λ q. absurd (one_side s r id at v there positive inside j n x q hx (subst (λ (y : View S K E P). Has y n) (sym a.1) hu)))
                    (λ q. a.0 ∙ sym q.0)
                    (snoc_cases (set s.views id left) right x j g))
                    (snoc_cases (set s.views id left) right u i e);
                each = λ n below. cut_each r.told s.views id at v r.shares there positive inside n below;
                none_above = r.shares.none_above;
                unlent_above = r.shares.unlent_above;
              };
            }
      ]

  module _ (v w : View S K E P) (beside : v.known.number + length v.known.own ≡ w.known.number) where
    merged_has : (n : ℕ) → v.phase ≡ Open → w.phase ≡ Open → Has (joined_view v w) n → Has v n ⊎ Has w n
    merged_has n ov ow has =
        let a = has.1 in
        let b = has.2 in
        let len = length-append v.known.own w.known.own in
        elim (dec_le (v.known.number + length v.known.own) n) [ yes above ↦ inr ((λ e. open_spent (sym ow ∙ e)), omega arith, omega arith) | no below ↦ inl ((λ e. open_spent (sym ov ∙ e)), a, lt_of_not-le below) ]

    first_has : (n : ℕ) → Has v n → Has (joined_view v w) n
    first_has n has = let a = has.1 in let b = has.2 in let len = length-append v.known.own w.known.own in (has.0, a, omega arith)

    second_has : (n : ℕ) → v.phase ≡ Open → Has w n → Has (joined_view v w) n
    second_has n ov has = let a = has.1 in let b = has.2 in let len = length-append v.known.own w.known.own in ((λ e. open_spent (sym ov ∙ e)), omega arith, omega arith)

    -- the longer of two journals that were seen has the own entries of all numbers of both
    merged_past : (t : Told K E P) → Fits m t v → Fits m t w → (past : List E) × ((joined_view v w).known.seen ≡ v.known.opening ++ past)
        × ((k : ℕ) → k < length v.known.own → get_or v.known.own k [] ≡ entries_of m.worker (v.known.number + k) past)
        × ((k : ℕ) → k < length w.known.own → get_or w.known.own k [] ≡ entries_of m.worker (w.known.number + k) past)
    merged_past t f g =
        let one = f.sound_is.past in
        let two = g.sound_is.past in
        let begun : w.known.seen ≡ v.known.opening ++ two = g.sound_is.begun ∙ ap (λ (l : List E). l ++ two) (g.opening_is ∙ sym f.opening_is) in
        let first : t.tail ≡ one ++ f.seen_is.0 = append_cancel_left t.opening t.tail (one ++ f.seen_is.0) (f.seen_is.1 ∙ (ap (λ (l : List E). l ++ f.seen_is.0) (f.sound_is.begun ∙ ap (λ (l : List E). l ++ one) f.opening_is) ∙ append_assoc t.opening one f.seen_is.0)) in
        let second : t.tail ≡ two ++ g.seen_is.0 = append_cancel_left t.opening t.tail (two ++ g.seen_is.0) (g.seen_is.1 ∙ (ap (λ (l : List E). l ++ g.seen_is.0) (g.sound_is.begun ∙ ap (λ (l : List E). l ++ two) g.opening_is) ∙ append_assoc t.opening two g.seen_is.0)) in
        let len : length v.known.seen ≡ length v.known.opening + length one = ap length f.sound_is.begun ∙ length-append v.known.opening one in
        let len' : length w.known.seen ≡ length v.known.opening + length two = ap length begun ∙ length-append v.known.opening two in
        elim (dec_le (length w.known.seen) (length v.known.seen)) [
          | yes shorter ↦ (
            one,
            ap (λ (b : Bool). cond b w.known.seen v.known.seen) (le-ltb (length v.known.seen) (length w.known.seen) shorter) ∙ f.sound_is.begun,
            f.sound_is.mine,
            (λ k lt. g.own_is k lt ∙ sym (entries_within m.worker (w.known.number + k) t.tail two one g.seen_is.0 f.seen_is.0 second first (omega arith) (sym (g.sound_is.mine k lt) ∙ g.own_is k lt))),
          )
          | no longer ↦
              let more : length v.known.seen < length w.known.seen = lt_of_not-le longer in (
                two,
                ap (λ (b : Bool). cond b w.known.seen v.known.seen) (lt-ltb (length v.known.seen) (length w.known.seen) more) ∙ begun,
                (λ k lt. f.own_is k lt ∙ sym (entries_within m.worker (v.known.number + k) t.tail one two f.seen_is.0 g.seen_is.0 first second (omega arith) (sym (f.sound_is.mine k lt) ∙ f.own_is k lt))),
                g.sound_is.mine,
              )
        ]

    merged_fits : (t : Told K E P) → v.phase ≡ Open → Fits m t v → Fits m t w → Fits m t (joined_view v w)
    merged_fits t opened f g =
        let len = length-append v.known.own w.known.own in
        let len' = length-append v.known.lent w.known.lent in
        let wide = f.sound_is.lists in
        let wide' = g.sound_is.lists in
        let high = g.sound_is.below in
        let nonempty = f.sound_is.some in
        let workers : v.known.workers ≡ w.known.workers = f.workers_is ∙ sym g.workers_is in
        let past = merged_past t f g in
        record {
          key_is = f.key_is;
          opening_is = f.opening_is;
          workers_is = f.workers_is;
          sound_is = record {
            some = omega arith;
            below = omega arith;
            lists = omega arith;
            past = past.0;
            begun = past.1;
            mine = λ k lt. ⊎_elim (λ a. a.1 ∙ past.2 k a.0)
                (λ a. let e = a.1 in a.2 ∙ (past.3 a.0 (omega arith) ∙ ap (λ (n : ℕ). entries_of m.worker n past.0) (omega arith)))
                (get_or-append_cases v.known.own w.known.own k []);
          };
          seen_is = elim (nat_lt (length v.known.seen) (length w.known.seen)) as (λ b. Begins (cond b w.known.seen v.known.seen) (t.opening ++ t.tail)) [ true ↦ g.seen_is | false ↦ f.seen_is ];
          own_is = λ k lt. ⊎_elim (λ a. a.1 ∙ f.own_is k a.0)
              (λ a. let e = a.1 in a.2 ∙ (g.own_is a.0 (omega arith) ∙ ap (λ (n : ℕ). entries_of m.worker n t.tail) (omega arith)))
              (get_or-append_cases v.known.own w.known.own k []);
          lent_is = λ k lt. ⊎_elim (λ a. a.1 ∙ f.lent_is k (let below = a.0 in omega arith))
              (λ a. let e = a.1 in a.2 ∙ (g.lent_is a.0 (omega arith) ∙ ap t.lent (omega arith)))
              (get_or-append_cases v.known.lent w.known.lent k []);
          over_is = λ e. ⊎_elim f.over_is g.over_is (or_cases v.known.over w.known.over e);
          found_is = λ e. absurd (open_holding (sym opened ∙ e));
        }

  merge_place : (t : Told K E P) (s : State (Option (Box S)) (View S K E P)) (id other : ℕ) (v w both : View S K E P) → get_elem? s.views id ≡ some v → get_elem? s.views other ≡ some w → v.phase ≡ Open → w.phase ≡ Open → both.phase ≡ Open
      → AtHome m t s ⊎ Out m s → let after : State (Option (Box S)) (View S K E P) = record { words = s.words; homes = s.homes; views = set (set s.views id both) other spent_view } in AtHome m t after ⊎ Out m after
  merge_place t s id other v w both at at' ov ow ob (inl h) = inl record {
    state = h.state;
    words_is = h.words_is;
    homes_is = h.homes_is;
    shows = h.shows;
    free = λ i u e. ⊎_elim (λ a. inr (sym (ap (λ (y : View S K E P). y.phase) a.1))) (λ a. ⊎_elim (λ q. inl (sym (ap (λ (y : View S K E P). y.phase) q.1) ∙ ob)) (λ q. h.free i u q.1) (at_set s.views id i both u a.1)) (at_set (set s.views id both) other i spent_view u e);
  }
  merge_place t s id other v w both at at' ov ow ob (inr o) =
      let not_id : o.holder ≢ id = λ e. open_holding (sym ov ∙ (ap (λ (y : View S K E P). y.phase) (some-injective v o.held.0 (sym at ∙ (ap (get_elem? s.views) (sym e) ∙ o.held.1))) ∙ o.held.2)) in
      let not_other : o.holder ≢ other = λ e. open_holding (sym ow ∙ (ap (λ (y : View S K E P). y.phase) (some-injective w o.held.0 (sym at' ∙ (ap (get_elem? s.views) (sym e) ∙ o.held.1))) ∙ o.held.2)) in
      inr record {
        holder = o.holder;
        held = (o.held.0, set_else (set s.views id both) other o.holder spent_view not_other ∙ (set_else s.views id o.holder both not_id ∙ o.held.1), o.held.2);
        words_is = o.words_is;
        homes_is = o.homes_is;
        alone = λ i u e. ⊎_elim (λ a. inr (inl (sym (ap (λ (y : View S K E P). y.phase) a.1)))) (λ a. ⊎_elim (λ q. inl (sym (ap (λ (y : View S K E P). y.phase) q.1) ∙ ob)) (λ q. o.alone i u q.1) (at_set s.views id i both u a.1)) (at_set (set s.views id both) other i spent_view u e);
      }

  -- a live view of the joined table, with where it or its numbers stood before
  merged_at : (s : State (Option (Box S)) (View S K E P)) (id other : ℕ) (both : View S K E P) (i n : ℕ) (u : View S K E P) → get_elem? (set (set s.views id both) other spent_view) i ≡ some u → Has u n
      → ((i ≡ id) × Has both n) ⊎ ((i ≢ id) × ((i ≢ other) × (get_elem? s.views i ≡ some u)))
  merged_at s id other both i n u e has =
      ⊎_elim
      (λ a. absurd (has.0 (sym (ap (λ (y : View S K E P). y.phase) a.1))))
      (λ a. ⊎_elim (λ q. inl (q.0, subst (λ (y : View S K E P). Has y n) (sym q.1) has)) (λ q. inr (q.0, (a.0, q.1))) (at_set s.views id i both u a.1))
      (at_set (set s.views id both) other i spent_view u e)

  -- each number of the two stands in the joined view, and each other one where it stood
  merge_each : (t : Told K E P) (views : List (View S K E P)) (id other : ℕ) (v w : View S K E P) → v.phase ≡ Open → v.known.number + length v.known.own ≡ w.known.number → Shares m t views → get_elem? views id ≡ some v → get_elem? views other ≡ some w → other ≢ id
      → (n : ℕ) → n < t.workers → (i : ℕ) × (u : View S K E P) × (get_elem? (set (set views id (joined_view v w)) other spent_view) i ≡ some u) × Has u n
  merge_each t views id other v w ov beside h at at' differ n below =
      let both : View S K E P = joined_view v w in
      let here : get_elem? (set (set views id both) other spent_view) id ≡ some both = set_else (set views id both) other id spent_view (λ e. differ (sym e)) ∙ set_here views id both (at_within views id v at) in
      let e = h.each n below in
      elim (ℕ_discrete e.0 id) [
        | yes same ↦ (id, both, here, first_has v w beside n (subst (λ (y : View S K E P). Has y n) (some-injective e.1 v (sym e.2 ∙ (ap (get_elem? views) same ∙ at))) e.3))
        | no not_id ↦ elim (ℕ_discrete e.0 other) [
          | yes same ↦ (id, both, here, second_has v w beside n ov (subst (λ (y : View S K E P). Has y n) (some-injective e.1 w (sym e.2 ∙ (ap (get_elem? views) same ∙ at'))) e.3))
          | no not_other ↦ (e.0, e.1, set_else (set views id both) other e.0 spent_view not_other ∙ (set_else views id e.0 both not_id ∙ e.2), e.3)
        ]
      ]

  pub merges : (about : S) (workers id other : ℕ) (v w : View S K E P) → v.phase ≡ Open → w.phase ≡ Open → v.known.number + length v.known.own ≡ w.known.number → Joins (Kept m about workers) id v other w (joined_view v w) spent_view
  merges about workers id other v w ov ow beside s holds at apart_is at_other =
      elim holds [
        | inl fresh ↦ absurd (starting_open (sym (fresh_starting m about workers s id v fresh at) ∙ ov))
        | inr r ↦
            let both : View S K E P = joined_view v w in
            let at' : get_elem? s.views other ≡ some w = sym (set_else s.views id other both apart_is) ∙ at_other in
            let f = fit_of m r.told s.views id v r.shares at (λ e. open_spent (sym ov ∙ e)) in
            let g = fit_of m r.told s.views other w r.shares at' (λ e. open_spent (sym ow ∙ e)) in
            inr record {
              told = r.told;
              place = merge_place r.told s id other v w both at at' ov ow ov r.place;
              shares = record {
                fits = λ i u e.
                    ⊎_elim
                    (λ a. inl (sym (ap (λ (y : View S K E P). y.phase) a.1)))
                    (λ a. ⊎_elim (λ q. inr (subst (λ (y : View S K E P). Fits m r.told y) q.1 (merged_fits v w beside r.told ov f g))) (λ q. r.shares.fits i u q.1) (at_set s.views id i both u a.1))
                    (at_set (set s.views id both) other i spent_view u e);
                apart = λ i j n u x e k hu hx.
                    ⊎_elim
                    (λ a. ⊎_elim
                    (λ q. a.0 ∙ sym q.0)
                    (λ q. absurd (⊎_elim (λ hv. q.0 (r.shares.apart j id n x v q.1.1 at hx hv)) (λ hw. q.1.0 (r.shares.apart j other n x w q.1.1 at' hx hw)) (merged_has v w beside n ov ow a.1)))
                    (merged_at s id other both j n x k hx))
                    (λ a. ⊎_elim
                    (λ q. absurd (⊎_elim (λ hv. a.0 (r.shares.apart i id n u v a.1.1 at hu hv)) (λ hw. a.1.0 (r.shares.apart i other n u w a.1.1 at' hu hw)) (merged_has v w beside n ov ow q.1)))
                    (λ q. r.shares.apart i j n u x a.1.1 q.1.1 hu hx)
                    (merged_at s id other both j n x k hx))
                    (merged_at s id other both i n u e hu);
                each = λ n below. merge_each r.told s.views id other v w ov beside r.shares at at' apart_is n below;
                none_above = r.shares.none_above;
                unlent_above = r.shares.unlent_above;
              };
            }
      ]

  pub cuts_at : (about : S) (workers id at n : ℕ) (v : View S K E P) → n ≡ at → v.phase ≡ Open → 0 < at → at < length v.known.own → Splits (Kept m about workers) id v (first_view_part n v) (second_view_part n v)
  cuts_at about workers id at n v same opened positive inside = subst (λ (k : ℕ). Splits (Kept m about workers) id v (first_view_part k v) (second_view_part k v)) (sym same) (cuts about workers id at v opened positive inside)
