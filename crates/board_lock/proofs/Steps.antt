-- Each step on the word keeps the rule.
use Rattle.std.proofs.Common.{◌≡◌, ◌≢◌, ℕ, zero, suc, ◌<◌, ◌≤◌, ◌+◌, ◌⊎◌, ⊎_elim, inl, inr, eqb, Option, Some, None, IfSome, List, [], ◌∷◌, ◌++◌, length, get_or, set, drop, All, refl, sym, ◌∙◌, ap, subst, arith, append_assoc, append-nil, replicate}
use Rattle.std.specs.Prelude.{slice_set, slice_index}
use Rattle.std.specs.Global.{Box}
use Rattle.std.proofs.Math.Seq.{drop-length}
use Rattle.std.proofs.lemmas.List.{length-replicate, get_or-replicate}
use mathlib.Core.Option.{some, none, some-injective}
use lib.ListN.{get_elem?}
use prog.Atomic.{either}
use Rattle.atomic_table.specs.Table.{Step, takes, keeps, gives, Allows, Final, Seen}
use Rattle.atomic_table.proofs.Lists.{at_set, set_again, set_here}
use Rattle.board_lock.specs.declared.view.Phase.TheVariants.{Starting, Open, Holding, Spent}
use Rattle.board_lock.specs.declared.view.View.{View}
use Rattle.board_lock.specs.Meant.{Meant, entries_of}
use Rattle.board_lock.specs.Passes.{LendsNothing, Finds, MayLeave, unseen, first_gains, first_becomes, first_known, known_after}
use Rattle.board_lock.specs.Rule.{Told, Shows, Fits, Shares, Kept, first_view}
use Rattle.board_lock.specs.Plays.{Sat, started, tried, left, holding_view, left_view}
use Rattle.board_lock.proofs.Entries.{entries-append, entries_mine, entries_other}
use Rattle.board_lock.proofs.Phases.{open_spent, open_holding, holding_spent, starting_open, starting_spent, starting_holding, some_is, at_within, only_one, first_value}
use Rattle.board_lock.proofs.Views.{told_after, fit_of, fresh_starting, finds_of, shares_set, shares_grow}

-- the lists of places after a step of the first number
first_place : {P : Type 0} (low : ℕ) (lists : List (List P)) (old new : ℕ → List P) → ((k : ℕ) → k < length lists → get_or lists k [] ≡ old (low + k)) → ((k : ℕ) → 0 < k → k < length lists → new (low + k) ≡ old (low + k))
    → (k : ℕ) → k < length lists → get_or (first_becomes lists (new low)) k [] ≡ new (low + k)
first_place low [] old new is same k lt = absurd (omega arith)
first_place low (l ∷ ls) old new is same zero lt = ap new (omega arith)
first_place low (l ∷ ls) old new is same (suc k) lt = is (suc k) lt ∙ sym (same (suc k) (omega arith) lt)

length-first_gains : {E : Type 0} (own : List (List E)) (added : List E) → length (first_gains own added) ≡ length own
length-first_gains [] added = refl
length-first_gains (o ∷ os) added = refl

length-first_becomes : {P : Type 0} (lent : List (List P)) (places : List P) → length (first_becomes lent places) ≡ length lent
length-first_becomes [] places = refl
length-first_becomes (l ∷ ls) places = refl

module _ {S K E P : Type 0} (m : Meant S K E P) where
  -- a try
  pub tries : (about : S) (workers slots id : ℕ) (v : View S K E P) (st : Step (Option (Box S))) → v.phase ≡ Open → Allows (Kept m about workers) slots id (v, []) 0 (λ n. either (eqb n 0) 1 n) (tried m st (v, []))
  tries about workers slots id v st opened s holds len at bound =
      elim holds [
        | inl fresh ↦ absurd (starting_open (sym (fresh_starting m about workers s id v fresh at) ∙ opened))
        | inr r ↦
            let t = r.told in
            let live : v.phase ≡ Spent → ⊥ = λ e. open_spent (sym opened ∙ e) in
            let f = fit_of m t s.views id v r.shares at live in
            elim r.place [
              | inl h ↦
                  let b : Box S = h.state in
                  let w : View S K E P = holding_view m v b.value in
                  let fit : Fits m t w = record {
                    key_is = f.key_is;
                    opening_is = f.opening_is;
                    workers_is = f.workers_is;
                    sound_is = record {
                      some = f.sound_is.some;
                      below = f.sound_is.below;
                      lists = f.sound_is.lists;
                      past = t.tail;
                      begun = h.shows.journal ∙ ap (λ (l : List E). l ++ t.tail) (sym f.opening_is);
                      mine = f.own_is;
                    };
                    seen_is = ([], sym h.shows.journal ∙ sym (append-nil (m.journal b.value)));
                    own_is = f.own_is;
                    lent_is = f.lent_is;
                    over_is = λ e. sym h.shows.over ∙ e;
                    found_is = λ _. (b.value, refl, h.shows, h.shows.journal, h.shows.over);
                  } in (
                    w,
                    takes 0 (Some b),
                    ap (λ (hs : List _). get_elem? hs 0) h.homes_is,
                    inr record {
                      told = t;
                      place = inr record {
                        holder = id;
                        held = (w, set_here s.views id w (at_within s.views id v at), refl);
                        words_is = ap (λ (ws : List ℕ). slice_set ws 0 (either (eqb (slice_index ws 0) 0) 1 (slice_index ws 0))) h.words_is;
                        homes_is = ap (λ (hs : List _). slice_set hs 0 none) h.homes_is;
                        alone = λ i u e. ⊎_elim (λ a. inr (inr (sym (ap (λ (y : View S K E P). y.phase) a.1), a.0))) (λ a. ⊎_elim (λ o. inl o) (λ o. inr (inl o)) (h.free i u a.1)) (at_set s.views id i w u e);
                      };
                      shares = shares_set m t s.views id v w r.shares at fit (λ n has. (live, has.1, has.2)) (λ n has. (holding_spent, has.1, has.2));
                    },
                    ((λ _. (b, finds_of m t s.views v b.value r.shares f h.shows, refl)), (λ no. absurd (no (ap (λ (ws : List ℕ). slice_index ws 0) h.words_is)))),
                  )
              | inr o ↦ (
                v,
                keeps,
                tt,
                inr record {
                  told = t;
                  place = inr record {
                    holder = o.holder;
                    held = subst (λ (vs : List (View S K E P)). (u : View S K E P) × (get_elem? vs o.holder ≡ some u) × (u.phase ≡ Holding)) (sym (set_again s.views id v at)) o.held;
                    words_is = ap (λ (ws : List ℕ). slice_set ws 0 (either (eqb (slice_index ws 0) 0) 1 (slice_index ws 0))) o.words_is;
                    homes_is = o.homes_is;
                    alone = subst (λ (vs : List (View S K E P)). (i : ℕ) (u : View S K E P) → get_elem? vs i ≡ some u → (u.phase ≡ Open) ⊎ ((u.phase ≡ Spent) ⊎ ((u.phase ≡ Holding) × (i ≡ o.holder)))) (sym (set_again s.views id v at)) o.alone;
                  };
                  shares = subst (λ (vs : List (View S K E P)). Shares m t vs) (sym (set_again s.views id v at)) r.shares;
                },
                ((λ zero_is. absurd (let one : slice_index s.words 0 ≡ 1 = ap (λ (ws : List ℕ). slice_index ws 0) o.words_is in omega arith)), (λ _. refl)),
              )
            ]
      ]

  -- the own lists after the holder's entries
  own_left : (low : ℕ) (own : List (List E)) (tail added : List E) → ((k : ℕ) → k < length own → get_or own k [] ≡ entries_of m.worker (low + k) tail) → All (λ e. m.worker e ≡ low) added
      → (k : ℕ) → k < length (first_gains own added) → get_or (first_gains own added) k [] ≡ entries_of m.worker (low + k) (tail ++ added)
  own_left low [] tail added is mine k lt = absurd (omega arith)
  own_left low (o ∷ os) tail added is mine zero lt =
      let low_is : low ≡ low + zero = omega arith in
      let mine' : All (λ e. m.worker e ≡ low + zero) added = subst (λ (n : ℕ). All (λ e. m.worker e ≡ n) added) low_is mine in
      let old : o ≡ entries_of m.worker (low + zero) tail = is zero (omega arith) in
      ap (λ (l : List E). l ++ added) old ∙ (ap (λ (l : List E). entries_of m.worker (low + zero) tail ++ l) (sym (entries_mine m.worker (low + zero) added mine')) ∙ sym (entries-append m.worker (low + zero) tail added))
  own_left low (o ∷ os) tail added is mine (suc k) lt =
      let old : get_or os k [] ≡ entries_of m.worker (low + suc k) tail = is (suc k) lt in
      let none : entries_of m.worker (low + suc k) added ≡ [] = entries_other m.worker (low + suc k) low added mine (λ e. omega arith) in
      old ∙ (sym (append-nil (entries_of m.worker (low + suc k) tail)) ∙ (ap (λ (l : List E). entries_of m.worker (low + suc k) tail ++ l) (sym none) ∙ sym (entries-append m.worker (low + suc k) tail added)))

  -- the lent lists of the other numbers stay, where the holder found them so
  lent_still : (t : Told K E P) (v : View S K E P) (x was : S) → Shows m t was → IfSome (Some was) (λ was. (n : ℕ) → n ≢ v.known.number → m.lent x n ≡ m.lent was n)
      → (n : ℕ) → n ≢ v.known.number → m.lent x n ≡ t.lent n
  lent_still t v x was shows may n other = may n other ∙ shows.lent n

  -- what the holder knows once it has left
  fits_left : (t : Told K E P) (v : View S K E P) (x : S) → Fits m t v → m.journal x ≡ t.opening ++ (t.tail ++ unseen m v.known x) → All (λ e. m.worker e ≡ v.known.number) (unseen m v.known x)
      → ((n : ℕ) → n ≢ v.known.number → m.lent x n ≡ t.lent n) → Fits m (told_after t (unseen m v.known x) (m.lent x) (m.over x)) (left_view m v x)
  fits_left t v x f history mine lent =
      let added : List E = unseen m v.known x in
      let nonempty = f.sound_is.some in
      let high = f.sound_is.below in
      let wide = f.sound_is.lists in
      let owns = length-first_gains v.known.own added in
      let lents = length-first_becomes v.known.lent (m.lent x v.known.number) in
      record {
        key_is = f.key_is;
        opening_is = f.opening_is;
        workers_is = f.workers_is;
        sound_is = record {
          some = omega arith;
          below = omega arith;
          lists = omega arith;
          past = t.tail ++ added;
          begun = history ∙ ap (λ (l : List E). l ++ (t.tail ++ added)) (sym f.opening_is);
          mine = own_left v.known.number v.known.own t.tail added f.own_is mine;
        };
        seen_is = ([], sym history ∙ sym (append-nil (m.journal x)));
        own_is = own_left v.known.number v.known.own t.tail added f.own_is mine;
        lent_is = λ k lt. first_place v.known.number v.known.lent t.lent (m.lent x) (λ i below. f.lent_is i (omega arith)) (λ i positive below. lent (v.known.number + i) (λ e. omega arith)) k (omega arith);
        over_is = λ e. e;
        found_is = λ e. absurd (open_holding e);
      }

  -- the state goes home
  pub leaves : (about : S) (workers slots id : ℕ) (v : View S K E P) (b : Box S) (st : Step (Option (Box S))) → v.phase ≡ Holding → MayLeave m v.known v.found b.value → Allows (Kept m about workers) slots id (v, (0, Some b) ∷ []) 0 (λ _. 0) (λ _. left m st (v, (0, Some b) ∷ []) 0)
  leaves about workers slots id v b st holding may s holds len at bound =
      elim holds [
        | inl fresh ↦ absurd (starting_holding (sym (fresh_starting m about workers s id v fresh at) ∙ holding))
        | inr r ↦
            let t = r.told in
            let live : v.phase ≡ Spent → ⊥ = λ e. holding_spent (sym holding ∙ e) in
            let f = fit_of m t s.views id v r.shares at live in
            elim r.place [
              | inl h ↦ absurd (⊎_elim (λ e. open_holding (sym e ∙ holding)) (λ e. live e) (h.free id v at))
              | inr o ↦
                  let x : S = b.value in
                  let found = f.found_is holding in
                  let added : List E = unseen m v.known x in
                  let t' : Told K E P = told_after t added (m.lent x) (m.over x) in
                  let w : View S K E P = left_view m v x in
                  let holder : id ≡ o.holder = ⊎_elim (λ e. absurd (open_holding (sym e ∙ holding))) (λ a. ⊎_elim (λ e. absurd (live e)) (λ q. q.1) a) (o.alone id v at) in
                  let history : m.journal x ≡ t.opening ++ (t.tail ++ added) = may.journal ∙ (ap (λ (l : List E). l ++ added) found.3 ∙ append_assoc t.opening t.tail added) in
                  let key : m.key x ≡ t.key = some_is (m.key x) t.key (may.key ∙ f.key_is) in
                  let lent : (n : ℕ) → n ≢ v.known.number → m.lent x n ≡ t.lent n
                  = lent_still t v x found.0 found.2 (subst (λ y. IfSome y (λ was. (n : ℕ) → n ≢ v.known.number → m.lent x n ≡ m.lent was n)) found.1 may.lent) in
                  let nonempty = f.sound_is.some in
                  let high = subst (λ (k : ℕ). v.known.number + length v.known.own ≤ k) f.workers_is f.sound_is.below in
                  let owns = length-first_gains v.known.own added in (
                    w,
                    gives,
                    tt,
                    inr record {
                      told = t';
                      place = inl record {
                        state = b;
                        words_is = ap (λ (ws : List ℕ). slice_set ws 0 0) o.words_is;
                        homes_is = ap (λ (hs : List _). slice_set hs 0 (some (Some b))) o.homes_is;
                        shows = record { key = key; journal = history; lent = λ n. refl; over = refl };
                        free = λ i u e. ⊎_elim (λ a. inl (sym (ap (λ (y : View S K E P). y.phase) a.1))) (λ a. ⊎_elim (λ q. inl q) (λ q. ⊎_elim (λ spent. inr spent) (λ z. absurd (a.0 (z.1 ∙ sym holder))) q) (o.alone i u a.1)) (at_set s.views id i w u e);
                      };
                      shares = shares_grow m t added (m.lent x) (m.over x) s.views id v w r.shares at
                          (live, omega arith, omega arith)
                          (omega arith)
                          may.mine
                          (λ e. may.over (found.4 ∙ e))
                          lent
                          (λ i u other there is_holding. ⊎_elim (λ e. open_holding (sym e ∙ is_holding)) (λ a. ⊎_elim (λ e. holding_spent (sym is_holding ∙ e)) (λ q. other (q.1 ∙ sym holder)) a) (o.alone i u there))
                          (fits_left t v x f history may.mine lent)
                          (λ n has. let from = has.1 in let to = has.2 in (live, from, omega arith))
                          (λ n has. let from = has.1 in let to = has.2 in (open_spent, from, omega arith));
                    },
                    (λ c is. let same_box : Some b ≡ Some c = ap first_value is in ap (λ (z : Box S). (left_view m v z.value, [])) (some_is b c same_box)),
                  )
            ]
      ]

  -- the first seat takes the empty slot
  pub starts : (about : S) (workers slots id : ℕ) (v : View S K E P) (st : Step (Option (Box S))) → 0 < workers → LendsNothing m about → v.phase ≡ Starting → Allows (Kept m about workers) slots id (v, []) 0 (λ n. n) (started st (v, []))
  starts about workers slots id v st positive nothing starting s holds len at bound =
      elim holds [
        | inr r ↦ absurd (⊎_elim
            (λ h. ⊎_elim (λ e. starting_open (sym starting ∙ e)) (λ e. starting_spent (sym starting ∙ e)) (h.free id v at))
            (λ o. ⊎_elim (λ e. starting_open (sym starting ∙ e)) (λ a. ⊎_elim (λ e. starting_spent (sym starting ∙ e)) (λ q. starting_holding (sym starting ∙ q.0)) a) (o.alone id v at))
            r.place)
        | inl fresh ↦
            let first : View S K E P = first_view m about workers in
            let t : Told K E P = record { workers = workers; key = m.key about; opening = m.journal about; tail = []; lent = m.lent about; over = m.over about } in
            let only = only_one first id v (ap (λ (vs : List (View S K E P)). get_elem? vs id) (sym fresh.views_is) ∙ at) in
            let w : View S K E P = record v { phase = Holding } in
            let w' : View S K E P = record first { phase = Holding } in
            let same : w' ≡ w = ap (λ (x : View S K E P). record x { phase = Holding }) only.1 in
            let views : set s.views id w ≡ w' ∷ [] = ap (λ (vs : List (View S K E P)). set vs id w) fresh.views_is ∙ (ap (λ (i : ℕ). set (first ∷ []) i w) only.0 ∙ ap (λ (x : View S K E P). x ∷ []) (sym same)) in
            let wide : length w'.known.own ≡ workers = length-replicate workers [] in
            let wide' : length w'.known.lent ≡ workers = length-replicate workers [] in
            let shows : Shows m t about = record { key = refl; journal = sym (append-nil (m.journal about)); lent = λ n. refl; over = refl } in
            let fit : Fits m t w' = record {
              key_is = refl;
              opening_is = refl;
              workers_is = refl;
              sound_is = record {
                some = omega arith;
                below = omega arith;
                lists = omega arith;
                past = [];
                begun = sym (append-nil (m.journal about));
                mine = λ k lt. get_or-replicate workers k [] [] (omega arith);
              };
              seen_is = ([], refl);
              own_is = λ k lt. get_or-replicate workers k [] [] (omega arith);
              lent_is = λ k lt. get_or-replicate workers k [] [] (omega arith) ∙ sym (nothing (0 + k));
              over_is = λ e. e;
              found_is = λ _. (about, refl, shows, sym (append-nil (m.journal about)), refl);
            } in (
              w,
              takes 0 None,
              ap (λ (hs : List _). get_elem? hs 0) fresh.homes_is,
              inr record {
                told = t;
                place = inr record {
                  holder = 0;
                  held = (w', ap (λ (vs : List (View S K E P)). get_elem? vs 0) views, refl);
                  words_is = ap (λ (ws : List ℕ). slice_set ws 0 (slice_index ws 0)) fresh.words_is;
                  homes_is = ap (λ (hs : List _). slice_set hs 0 none) fresh.homes_is;
                  alone = λ i u e. let a = only_one w' i u (ap (λ (vs : List (View S K E P)). get_elem? vs i) (sym views) ∙ e) in inr (inr (sym (ap (λ (y : View S K E P). y.phase) a.1), a.0));
                };
                shares = subst (λ (vs : List (View S K E P)). Shares m t vs) (sym views) record {
                  fits = λ i u e. inr (subst (λ (x : View S K E P). Fits m t x) (only_one w' i u e).1 fit);
                  apart = λ i j n u x e f hu hx. (only_one w' i u e).0 ∙ sym (only_one w' j x f).0;
                  each = λ n below. (0, w', refl, (holding_spent, omega arith, omega arith));
                  none_above = λ n above. refl;
                  unlent_above = λ n above. nothing n;
                };
              },
              refl,
            )
      ]

  -- at the end the one pass that is left finds the state at home
  pub closes : (about : S) (workers id : ℕ) (v : View S K E P) (ws : List ℕ) (xs : List (Option (Box S))) → v.phase ≡ Open → v.known.number ≡ 0 → length v.known.own ≡ v.known.workers
      → Final (Seen (Kept m about workers) id v) ws xs → (b : Box S) × (get_elem? xs 0 ≡ some (Some b)) × Finds m v.known b.value
  closes about workers id v ws xs opened low all final =
      let s = final.0 in
      let at = final.1.1 in
      elim final.1.0 [
        | inl fresh ↦ absurd (starting_open (sym (fresh_starting m about workers s id v fresh at) ∙ opened))
        | inr r ↦
            let t = r.told in
            let live : v.phase ≡ Spent → ⊥ = λ e. open_spent (sym opened ∙ e) in
            let f = fit_of m t s.views id v r.shares at live in
            elim r.place [
              | inl h ↦ (
                h.state,
                final.4 0 (Some h.state) (ap (λ (hs : List _). get_elem? hs 0) h.homes_is),
                finds_of m t s.views v h.state.value r.shares f h.shows,
              )
              | inr o ↦
                  let u : View S K E P = o.held.0 in
                  let holding : u.phase ≡ Holding = o.held.2 in
                  let live' : u.phase ≡ Spent → ⊥ = λ e. holding_spent (sym holding ∙ e) in
                  let g = fit_of m t s.views o.holder u r.shares o.held.1 live' in
                  let wide = f.workers_is in
                  let nonempty = g.sound_is.some in
                  let high = g.sound_is.below in
                  let wide' = g.workers_is in
                  let here : id ≡ o.holder = r.shares.apart id o.holder u.known.number v u at o.held.1 (live, omega arith, omega arith) (live', omega arith, omega arith) in
                  let same : v ≡ u = some-injective v u (sym at ∙ (ap (get_elem? s.views) here ∙ o.held.1)) in
                  absurd (open_holding (sym opened ∙ (ap (λ (y : View S K E P). y.phase) same ∙ holding)))
            ]
      ]

  -- the same, at a seat
  pub tries_at : (about : S) (workers slots id : ℕ) (me : Sat S K E P) (st : Step (Option (Box S))) → me.0.phase ≡ Open → me.1 ≡ [] → Allows (Kept m about workers) slots id me 0 (λ n. either (eqb n 0) 1 n) (tried m st me)
  tries_at about workers slots id me st opened empty =
      subst (λ (l : List (ℕ × Option (Box S))). Allows (Kept m about workers) slots id (me.0, l) 0 (λ n. either (eqb n 0) 1 n) (tried m st (me.0, l))) (sym empty) (tries about workers slots id me.0 st opened)

  pub leaves_at : (about : S) (workers slots id : ℕ) (me : Sat S K E P) (b : Box S) (st : Step (Option (Box S))) → me.0.phase ≡ Holding → me.1 ≡ (0, Some b) ∷ [] → MayLeave m me.0.known me.0.found b.value → Allows (Kept m about workers) slots id me 0 (λ _. 0) (λ _. left m st me 0)
  leaves_at about workers slots id me b st holding full may =
      subst (λ (l : List (ℕ × Option (Box S))). Allows (Kept m about workers) slots id (me.0, l) 0 (λ _. 0) (λ _. left m st (me.0, l) 0)) (sym full) (leaves about workers slots id me.0 b st holding may)

  pub starts_at : (about : S) (workers slots id : ℕ) (me : Sat S K E P) (st : Step (Option (Box S))) → 0 < workers → LendsNothing m about → me.0.phase ≡ Starting → me.1 ≡ [] → Allows (Kept m about workers) slots id me 0 (λ n. n) (started st me)
  starts_at about workers slots id me st positive nothing starting empty =
      subst (λ (l : List (ℕ × Option (Box S))). Allows (Kept m about workers) slots id (me.0, l) 0 (λ n. n) (started st (me.0, l))) (sym empty) (starts about workers slots id me.0 st positive nothing starting)

  -- the first seat may leave the state as it was given, and knows what it knew
  pub first_may_leave : (x : S) (workers : ℕ) → MayLeave m (first_known m x workers) (Some x) x
  first_may_leave x workers =
      let none : drop (length (m.journal x)) (m.journal x) ≡ [] = drop-length (m.journal x) in
      record {
        key = refl;
        journal = sym (append-nil (m.journal x)) ∙ ap (λ (l : List E). m.journal x ++ l) (sym none);
        mine = subst (All (λ e. m.worker e ≡ 0)) (sym none) (λ k d lt. absurd (omega arith));
        lent = λ n other. refl;
        over = λ e. e;
      }

  pub first_left : (x : S) (workers : ℕ) → LendsNothing m x → known_after m (first_known m x workers) x ≡ first_known m x workers
  first_left x zero nothing = refl
  first_left x (suc n) nothing =
      let none : drop (length (m.journal x)) (m.journal x) ≡ [] = drop-length (m.journal x) in
      let own : first_gains (replicate (suc n) []) (drop (length (m.journal x)) (m.journal x)) ≡ replicate (suc n) [] = ap (λ (l : List E). l ∷ replicate n []) none in
      let lent : first_becomes (replicate (suc n) []) (m.lent x 0) ≡ replicate (suc n) [] = ap (λ (l : List P). l ∷ replicate n []) (nothing 0) in
      ap (λ o. record (first_known m x (suc n)) { own = o; lent = first_becomes (replicate (suc n) []) (m.lent x 0) }) own ∙ ap (λ l. record (first_known m x (suc n)) { lent = l }) lent
