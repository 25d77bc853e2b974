-- The pick is found job by job.
use Rattle.std.proofs.Common.{◌≡◌, ◌≢◌, ◌⊎◌, ⊎_elim, inl, inr, ℕ, zero, suc, not, Bool, true, false, Option, Some, None, List, [], ◌∷◌, ◌++◌, length, reverse, refl, sym, ap, ◌∙◌, subst, arith, append_assoc}
use Rattle.std.proofs.lemmas.Bool.{cases_eq, lt-ltb}
use Rattle.std.proofs.lemmas.List.{reverse-append, reverse-reverse}
use Rattle.pisdf_meaning.specs.declared.firing.Firing.{Firing}
use Rattle.nested_jobs.specs.Rules.{Call, Place, Task, Work}
use Rattle.nested_jobs.specs.Marks.{Busy, Done, Free, Mark, Marks, Open, put, values}
use Rattle.nested_jobs.specs.Invariants.{InJob}
use Rattle.nested_jobs.specs.Pick.{outer}
use Rattle.nested_jobs.specs.Steps.{IsEnabled, begins, opened, opens, task_at}
use Rattle.nested_jobs.proofs.Finding.{opened_open}
use Rattle.nested_jobs.proofs.Nesting.{claimed_nested, of_busy, of_open, opened_nested}
use Rattle.nested_jobs.proofs.OneStep.{outer_open, work_enabled}
use Rattle.nested_jobs.proofs.Places.{cons_ne, one_open, place_cases, put_here, put_other, tail_is}
use Rattle.nested_jobs.proofs.Turns.{task_is}
use Rattle.job_rules.specs.Items.{graph_of, prepared_in}
use Rattle.job_rules.specs.Meant.{rank}
use Rattle.job_rules.specs.Words as words
use Rattle.job_rules.specs.Words.{Answer}
use Rattle.board_rules.specs.Keys.{IsKey, Key, rules, top_job}
use Rattle.board_rules.specs.Offers.{AreFirst, IsBest, NoneOffers, Offers, Yields, calls}
use Rattle.board_rules.specs.Picks.{AreMapped, GoesBefore, IsPick, ItemStands, Standing, StandsAs, goes_before, is_lesser_way, is_open, item_towards, items_below, steps_to}
use Rattle.board_rules.proofs.Known.{BoardLaws, Known}
use Rattle.board_rules.proofs.Ordering.{deep_first, open_first, standings_ordered, way_decides, way_is_last, with_way}
use Rattle.board_rules.proofs.Standing.{Alike, Homed, Way, alike_item, below_way, goes_below, homed, number_is, opens_is, outer_is, stands, towards, way_of, within_is}

-- ---- ways of zeros

first_append : (xs ys : List ℕ) → AreFirst xs → AreFirst ys → AreFirst (xs ++ ys)
first_append [] ys one other = other
first_append (x ∷ xs) ys one other = (one.0, first_append xs ys one.1 other)

first_turned : (xs : List ℕ) → AreFirst xs → AreFirst (reverse xs)
first_turned [] first = tt
first_turned (x ∷ xs) first = subst AreFirst (sym (reverse-append (x ∷ []) xs)) (first_append (reverse xs) (x ∷ []) (first_turned xs first.1) (first.0, tt))

-- the first goes on where the second ends
record Longer (xs ys : List ℕ) : Type 0 where
  more : ℕ
  rest : List ℕ
  is : xs ≡ ys ++ more ∷ rest

-- what begins with zeros goes before everything, but for what is a part of it
zeros_first : (xs ys : List ℕ) → AreFirst xs → (is_lesser_way xs ys ≡ true) ⊎ ((xs ≡ ys) ⊎ Longer xs ys)
zeros_first [] [] first = inr (inl refl)
zeros_first [] (y ∷ ys) first = inl refl
zeros_first (x ∷ xs) [] first = inr (inr record { more = x; rest = xs; is = refl })
zeros_first (x ∷ xs) (zero ∷ ys) first =
    let zeroth : x ≡ 0 = first.0 in
    ⊎_elim
    (λ lesser. inl (rw zeroth lesser))
    (λ other. inr (⊎_elim (λ same. inl (λ i. zeroth i ∷ same i)) (λ longer. let more = longer.is in inr record { more = longer.more; rest = longer.rest; is = λ i. zeroth i ∷ more i }) other))
    (zeros_first xs ys first.1)
zeros_first (x ∷ xs) (suc y ∷ ys) first = let zeroth : x ≡ 0 = first.0 in let less = lt-ltb x (suc y) (omega arith) in inl (rw less refl)

longer_way : (xs ys : List ℕ) → Longer (reverse xs) (reverse ys) → (e : ℕ) × (es : List ℕ) × (xs ≡ (e ∷ es) ++ ys)
longer_way xs ys longer = go (reverse (longer.more ∷ longer.rest)) refl
  where
    is : xs ≡ reverse (longer.more ∷ longer.rest) ++ ys
    is = sym (reverse-reverse xs) ∙ (ap reverse longer.is ∙ (reverse-append (reverse ys) (longer.more ∷ longer.rest) ∙ ap (λ (z : List ℕ). reverse (longer.more ∷ longer.rest) ++ z) (reverse-reverse ys)))

    go : (z : List ℕ) → reverse (longer.more ∷ longer.rest) ≡ z → (e : ℕ) × (es : List ℕ) × (xs ≡ (e ∷ es) ++ ys)
    go [] e = let no : longer.more ∷ longer.rest ≡ [] = sym (reverse-reverse (longer.more ∷ longer.rest)) ∙ ap reverse e in absurd (cc)
    go (e ∷ es) is_z = (e, es, is ∙ ap (λ (z : List ℕ). z ++ ys) is_z)

module _ (key : Key) (is : IsKey key) (laws : BoardLaws key) (m : Marks Firing Answer) (known : Known key m) where
  abbrev ranks : Firing → ℕ
  ranks = rank key.graphs.graphs

  abbrev Enabled : Place → Type 0
  Enabled a = IsEnabled (rules key) m a

  abbrev marks_on : Place → Marks Firing Answer
  marks_on p = opened (rules key) m p

  -- ---- tasks on the way to enabled items

  -- a job on the way is open once the way is opened
  open_above : (way : List ℕ) (b : Place) (d : Firing) → marks_on (way ++ b) (way ++ b) ≡ Open d → (e : Firing) × (marks_on b b ≡ Open e)
  open_above [] b d o = (d, o)
  open_above (k ∷ way) b d o =
      let p : Place = way ++ b in
      let n : Marks Firing Answer = marks_on p in
      let y : Mark Firing Answer = opens (n (k ∷ p)) (task_at (rules key) n k p) in
      let up = of_open (rules key) ranks laws.lawful (top_job key) (put n (k ∷ p) y) k p d (opened_nested (rules key) ranks laws.lawful (top_job key) m (k ∷ p) known.nested) o in
      open_above way b up.job (sym (put_other n (k ∷ p) y p (cons_ne k p)) ∙ up.is_open)

  way_open : (j : ℕ) (way : List ℕ) (b : Place) → Enabled (j ∷ way ++ b) → (e : Firing) × (marks_on b b ≡ Open e)
  way_open j way b on =
      let p : Place = way ++ b in
      let n : Marks Firing Answer = marks_on p in
      let y : Mark Firing Answer = begins (n (j ∷ p)) (task_at (rules key) n j p) in
      let busy = of_busy (rules key) ranks laws.lawful (top_job key) (put n (j ∷ p) y) j p (claimed_nested (rules key) ranks laws.lawful (top_job key) m (j ∷ p) known.nested) on.1 in
      open_above way b busy.1.job (sym (put_other n (j ∷ p) y p (cons_ne j p)) ∙ busy.1.is_open)

  not_both : (x : Mark Firing Answer) (t : Option (Task Firing words.Work)) (d : Firing) → begins x t ≡ Busy → opens x t ≡ Open d → ⊥
  not_both Free None d busy open_ = cc
  not_both Free (Some (Work work)) d busy open_ = cc
  not_both Free (Some (Call c)) d busy open_ = cc
  not_both Busy t d busy open_ = cc
  not_both (Open c) t d busy open_ = cc
  not_both (Done a) t d busy open_ = cc

  -- no enabled item stands below another
  not_above : (j : ℕ) (way : List ℕ) (i : ℕ) (p : Place) → Enabled (j ∷ way ++ i ∷ p) → Enabled (i ∷ p) → ⊥
  not_above j way i p below on =
      let n : Marks Firing Answer = marks_on p in
      let above = way_open j way (i ∷ p) below in
      not_both (n (i ∷ p)) (task_at (rules key) n i p) above.0
      (sym (put_here n (i ∷ p) (begins (n (i ∷ p)) (task_at (rules key) n i p))) ∙ on.1)
      (sym (put_here n (i ∷ p) (opens (n (i ∷ p)) (task_at (rules key) n i p))) ∙ above.1)

  -- an enabled item of an open job is work
  is_work : (k : ℕ) (q : Place) (t : Task Firing words.Work) → Enabled (k ∷ q) → InJob (rules key) m k q t → calls t ≡ false
  is_work k q (Work work) on job = refl
  is_work k q (Call d) on job =
      let still = opened_open (rules key) ranks laws.lawful (top_job key) m q job.job known.nested job.is_open in
      let n : Marks Firing Answer = marks_on q in
      let at : n (k ∷ q) ≡ Free = ap (λ (f : Marks Firing Answer). f (k ∷ q)) still ∙ on.0 in
      let task : task_at (rules key) n k q ≡ Some (Call d) = ap (λ (f : Marks Firing Answer). task_at (rules key) f k q) still ∙ task_is (rules key) m k q (Call d) job in
      let busy : begins (n (k ∷ q)) (task_at (rules key) n k q) ≡ Busy = sym (put_here n (k ∷ q) (begins (n (k ∷ q)) (task_at (rules key) n k q))) ∙ on.1 in
      let no : Free ≡ Busy = sym (ap (λ (x : Mark Firing Answer). begins x (task_at (rules key) n k q)) at ∙ ap (λ (t : Option (Task Firing words.Work)). begins {A = Answer} Free t) task) ∙ busy in
      absurd (cc)

  -- one on whose way others are enabled is a call
  is_call : (j : ℕ) (way : List ℕ) (k : ℕ) (q : Place) (t : Task Firing words.Work) → Enabled (j ∷ way ++ k ∷ q) → m (k ∷ q) ≡ Free → InJob (rules key) m k q t → calls t ≡ true
  is_call j way k q (Call d) on free job = refl
  is_call j way k q (Work work) on free job =
      let enabled = work_enabled (rules key) ranks laws.lawful (top_job key) m k q work known.nested free job in
      absurd (not_above j way k q on enabled)

  -- ---- offers and standings

  module _ (w : ℕ) where
    abbrev Offered : Bool → Place → ℕ → Standing → Type 0
    Offered opens q k s = Offers key m w opens q k s

    outer_own : (q : Place) (c : Firing) → m q ≡ Open c → outer m q ≡ q
    outer_own q c o = outer_open (rules key) ranks laws.lawful (top_job key) m q c o

    -- an offer of work stands as its item does
    offer_stands : (q : Place) (k : ℕ) (s : Standing) → Offered false q k s → StandsAs key m w k q s
    offer_stands q k s offer =
        let own = outer_own q offer.job offer.is_open in
        let here : m (outer m q) ≡ Open offer.job = ap m own ∙ offer.is_open in
        let number : s.number ≡ item_towards (outer m q) (k ∷ q) = offer.number_is ∙ sym (ap (λ (z : Place). item_towards z (k ∷ q)) own ∙ towards [] k q) in
        let P : Place → Type 0 = λ z. ItemStands key (graph_of key.graphs.graphs offer.job) offer.job (prepared_in (graph_of key.graphs.graphs offer.job) (values m z)) w k s in
        let Q : ℕ → Type 0 = λ z. ItemStands key (graph_of key.graphs.graphs offer.job) offer.job (prepared_in (graph_of key.graphs.graphs offer.job) (values m (outer m q))) w z s in
        record {
          firing = offer.job;
          is_open_job = here;
          opens_is = offer.opens_is ∙ sym (ap (λ (x : Mark Firing Answer). not (is_open x)) offer.is_open);
          depth_is = offer.depth_is ∙ ap (λ (z : Place). length z) (sym own);
          path_is = offer.path_is ∙ ap (steps_to key m) (sym own);
          number_is = number;
          within_is = offer.within_is ∙ sym (ap (λ (z : Place). items_below z (k ∷ q)) own ∙ below_way [] k q);
          at_home = subst Q (sym offer.number_is) (subst P (sym own) offer.at_home);
        }

    -- an enabled item of an open job is an offer of work
    enabled_offers : (q : Place) (k : ℕ) (s : Standing) (c : Firing) → m q ≡ Open c → (t : Task Firing words.Work) → Enabled (k ∷ q) → InJob (rules key) m k q t → StandsAs key m w k q s → Offered false q k s
    enabled_offers q k s c o t on job st =
        let own = outer_own q job.job job.is_open in
        let same : st.firing ≡ job.job = one_open m q st.firing job.job (ap m (sym own) ∙ st.is_open_job) job.is_open in
        let number : s.number ≡ k = st.number_is ∙ (ap (λ (z : Place). item_towards z (k ∷ q)) own ∙ towards [] k q) in
        let P : Firing → Type 0 = λ f. ItemStands key (graph_of key.graphs.graphs f) f (prepared_in (graph_of key.graphs.graphs f) (values m (outer m q))) w s.number s in
        let Q : Place → Type 0 = λ z. ItemStands key (graph_of key.graphs.graphs job.job) job.job (prepared_in (graph_of key.graphs.graphs job.job) (values m z)) w s.number s in
        let R : ℕ → Type 0 = λ z. ItemStands key (graph_of key.graphs.graphs job.job) job.job (prepared_in (graph_of key.graphs.graphs job.job) (values m q)) w z s in
        record {
          job = job.job;
          is_open = job.is_open;
          free = on.0;
          task = t;
          has_task = job.has_task;
          kind = is_work k q t on job;
          opens_is = st.opens_is ∙ ap (λ (x : Mark Firing Answer). not (is_open x)) job.is_open;
          depth_is = st.depth_is ∙ ap (λ (z : Place). length z) own;
          path_is = st.path_is ∙ ap (steps_to key m) own;
          number_is = number;
          within_is = st.within_is ∙ (ap (λ (z : Place). items_below z (k ∷ q)) own ∙ below_way [] k q);
          at_home = subst R number (subst Q own (subst P same st.at_home));
        }

    -- two standings of one offer are the same
    pub offers_once : (opens : Bool) (q : Place) (k : ℕ) (s u : Standing) → Offered opens q k s → Offered opens q k u → s ≡ u
    offers_once opens q k s u one other =
        let job : other.job ≡ one.job = one_open m q other.job one.job other.is_open one.is_open in
        let P : Firing → Type 0 = λ f. ItemStands key (graph_of key.graphs.graphs f) f (prepared_in (graph_of key.graphs.graphs f) (values m q)) w k u in
        let rest = alike_item key is laws m known one.job q one.is_open w k s u (prepared_in (graph_of key.graphs.graphs one.job) (values m q)) refl one.at_home (subst P job other.at_home) in
        let opens_ = one.opens_is ∙ sym other.opens_is in
        let depth = one.depth_is ∙ sym other.depth_is in
        let path = one.path_is ∙ sym other.path_is in
        let number = one.number_is ∙ sym other.number_is in
        let within = one.within_is ∙ sym other.within_is in
        let away = rest.away in
        let urgency = rest.urgency in
        λ x. record { opens = opens_ x; depth = depth x; away = away x; urgency = urgency x; path = path x; number = number x; within = within x }

    -- ---- the best goes before all

    best_first : (opens : Bool) (q : Place) (k : ℕ) (s : Standing) → IsBest key m w opens q k s → (r : Place) (l : ℕ) (u : Standing) → Offered opens r l u → l ∷ r ≢ k ∷ q → goes_before s u ≡ true
    best_first opens q k s best r l u offer other = ⊎_elim
        (λ (here : r ≡ q). best.best.first l u (subst (λ (z : Place). Offered opens z l u) here offer) (λ e. other (λ x. e x ∷ here x)))
        (λ (away : r ≢ q). elsewhere (best.others r offer.job offer.is_open away))
        (place_cases r q)
      where
        elsewhere : Yields key m w opens q s r → goes_before s u ≡ true
        elsewhere (inl lower) =
            let one = best.best.offered.depth_is in
            let two = offer.depth_is in
            deep_first s u (best.best.offered.opens_is ∙ sym offer.opens_is) (omega arith)
        elsewhere (inr (inl none)) = absurd (none l u offer)
        elsewhere (inr (inr there)) = ⊎_elim
            (λ (same : l ≡ there.0).
            let again : Offered opens r there.0 u = subst (λ (z : ℕ). Offered opens r z u) same offer in
            let one : there.1 ≡ u = offers_once opens r there.0 there.1 u there.2.offered again in
            subst (λ (z : Standing). goes_before s z ≡ true) one there.3)
            (λ (apart : l ≡ there.0 → ⊥). standings_ordered.through s there.1 u there.3 (there.2.first l u offer apart))
            (cases_eq l there.0)

    -- ---- work

    pub work_is_picked : AreMapped key m → (k : ℕ) (q : Place) (s : Standing) → IsBest key m w false q k s → IsPick key m w k q
    work_is_picked mapped k q s best = record { enabled = enabled; first = first }
      where
        offer : Offered false q k s
        offer = best.best.offered

        work_at : (t : Task Firing words.Work) → calls t ≡ false → InJob (rules key) m k q t → Enabled (k ∷ q)
        work_at (Work work) e job = work_enabled (rules key) ranks laws.lawful (top_job key) m k q work known.nested offer.free job
        work_at (Call d) e job = absurd (cc)

        enabled : Enabled (k ∷ q)
        enabled = work_at offer.task offer.kind record { job = offer.job; is_open = offer.is_open; has_task = offer.has_task }

        first : (j : ℕ) (p : Place) → Enabled (j ∷ p) → j ∷ p ≢ k ∷ q → GoesBefore key m w k q j p
        first j p on other = record { one = s; other = u.0; one_stands = offer_stands q k s offer; other_stands = u.1; before = go t.way refl }
          where
            t : Way key is laws m known (j ∷ p)
            t = way_of key is laws m known (j ∷ p) on

            u : (x : Standing) × StandsAs key m w j p x
            u = stands key is laws m known mapped w j p t

            go : (way : List ℕ) → t.way ≡ way → goes_before s u.0 ≡ true
            go [] e =
                let at : j ∷ p ≡ t.item ∷ t.place = t.is_on_way ∙ ap (λ (z : List ℕ). z ++ t.item ∷ t.place) e in
                let place : t.place ≡ p = sym (tail_is j t.item p t.place at) in
                let item : t.item ≡ j = let f : t.item ∷ t.place ≡ j ∷ p = sym at in cc in
                let job : InJob (rules key) m j p t.ready.task = subst (λ (z : ℕ). InJob (rules key) m z p t.ready.task) item (subst (λ (z : Place). InJob (rules key) m t.item z t.ready.task) place t.ready.in_job) in
                best_first false q k s best p j u.0 (enabled_offers p j u.0 job.job job.is_open t.ready.task on job u.1) other
            go (i ∷ way) e = open_first s u.0 offer.opens_is (u.1.opens_is ∙ (opens_is key is laws m known j p t ∙ ap goes_below e))

    -- ---- a child

    -- the offer of a call on the way to an enabled item
    record CalledBy (j : ℕ) (p : Place) (t : Way key is laws m known (j ∷ p)) : Type 0 where
      offer : Standing
      offered : Offered true t.place t.item offer
      full : Standing
      stands_so : StandsAs key m w j p full
      full_is : full ≡ with_way offer (reverse t.way)

    called : AreMapped key m → NoneOffers key m w false → (j : ℕ) (p : Place) → Enabled (j ∷ p) → (t : Way key is laws m known (j ∷ p)) → CalledBy j p t
    called mapped none j p on t = record { offer = s; offered = offered; full = u.0; stands_so = u.1; full_is = full_is }
      where
        u : (x : Standing) × StandsAs key m w j p x
        u = stands key is laws m known mapped w j p t

        q : Place
        q = t.place

        c : Firing
        c = t.ready.in_job.job

        home : Homed key is laws m known c (prepared_in (graph_of key.graphs.graphs c) (values m q)) w t.item
        home = homed key is laws m known mapped q c t.ready.in_job.is_open w t.item (prepared_in (graph_of key.graphs.graphs c) (values m q)) refl

        s : Standing
        s = record { opens = true; depth = length q; away = home.away; urgency = home.urgency; path = steps_to key m q; number = t.item; within = [] }

        kind : (way : List ℕ) → t.way ≡ way → (calls t.ready.task ≡ true) × (goes_below t.way ≡ true)
        kind [] e =
            let at : j ∷ p ≡ t.item ∷ q = t.is_on_way ∙ ap (λ (z : List ℕ). z ++ t.item ∷ q) e in
            let place : q ≡ p = sym (tail_is j t.item p q at) in
            let item : t.item ≡ j = let f : t.item ∷ q ≡ j ∷ p = sym at in cc in
            let job : InJob (rules key) m j p t.ready.task = subst (λ (z : ℕ). InJob (rules key) m z p t.ready.task) item (subst (λ (z : Place). InJob (rules key) m t.item z t.ready.task) place t.ready.in_job) in
            absurd (none p j u.0 (enabled_offers p j u.0 job.job job.is_open t.ready.task on job u.1))
        kind (i ∷ way) e =
            let at : j ∷ p ≡ i ∷ way ++ t.item ∷ q = t.is_on_way ∙ ap (λ (z : List ℕ). z ++ t.item ∷ q) e in
            (is_call i way t.item q t.ready.task (subst Enabled at on) t.ready.free t.ready.in_job, ap goes_below e)

        offered : Offered true q t.item s
        offered = record {
          job = c;
          is_open = t.ready.in_job.is_open;
          free = t.ready.free;
          task = t.ready.task;
          has_task = t.ready.in_job.has_task;
          kind = (kind t.way refl).0;
          opens_is = refl;
          depth_is = refl;
          path_is = refl;
          number_is = refl;
          within_is = refl;
          at_home = home.stands s refl refl;
        }

        rest : Alike key is laws m known u.0 s
        rest =
            let own = outer_is key is laws m known j p t in
            let job : u.1.firing ≡ c = one_open m q u.1.firing c (ap m (sym own) ∙ u.1.is_open_job) t.ready.in_job.is_open in
            let number : u.0.number ≡ t.item = u.1.number_is ∙ number_is key is laws m known j p t in
            let P : Firing → Type 0 = λ f. ItemStands key (graph_of key.graphs.graphs f) f (prepared_in (graph_of key.graphs.graphs f) (values m (outer m p))) w u.0.number u.0 in
            let Q : Place → Type 0 = λ z. ItemStands key (graph_of key.graphs.graphs c) c (prepared_in (graph_of key.graphs.graphs c) (values m z)) w u.0.number u.0 in
            let R : ℕ → Type 0 = λ z. ItemStands key (graph_of key.graphs.graphs c) c (prepared_in (graph_of key.graphs.graphs c) (values m q)) w z u.0 in
            alike_item key is laws m known c q t.ready.in_job.is_open w t.item u.0 s (prepared_in (graph_of key.graphs.graphs c) (values m q)) refl (subst R number (subst Q own (subst P job u.1.at_home))) (home.stands s refl refl)

        full_is : u.0 ≡ with_way s (reverse t.way)
        full_is =
            let own = outer_is key is laws m known j p t in
            let opens_ : u.0.opens ≡ true = u.1.opens_is ∙ (opens_is key is laws m known j p t ∙ (kind t.way refl).1) in
            let depth : u.0.depth ≡ length q = u.1.depth_is ∙ ap (λ (z : Place). length z) own in
            let path : u.0.path ≡ steps_to key m q = u.1.path_is ∙ ap (steps_to key m) own in
            let number : u.0.number ≡ t.item = u.1.number_is ∙ number_is key is laws m known j p t in
            let within : u.0.within ≡ reverse t.way = u.1.within_is ∙ within_is key is laws m known j p t in
            let away = rest.away in
            let urgency = rest.urgency in
            λ x. record { opens = opens_ x; depth = depth x; away = away x; urgency = urgency x; path = path x; number = number x; within = within x }

    -- of two items on whose ways the same call stands, the one whose way has zeros alone goes first
    zeros_go : (j : ℕ) (p : Place) (j' : ℕ) (p' : Place) (s : Standing) (way way' : List ℕ) (k : ℕ) (q : Place) → AreFirst way → j ∷ p ≡ way ++ k ∷ q → j' ∷ p' ≡ way' ++ k ∷ q → Enabled (j ∷ p) → Enabled (j' ∷ p') → j' ∷ p' ≢ j ∷ p
        → goes_before (with_way s (reverse way)) (with_way s (reverse way')) ≡ true
    zeros_go j p j' p' s way way' k q first at at' on on' other = ⊎_elim
        (λ lesser. way_decides s (reverse way) (reverse way') lesser)
        (λ rest. absurd (⊎_elim
        (λ (same : reverse way ≡ reverse way').
        let ways : way ≡ way' = sym (reverse-reverse way) ∙ (ap reverse same ∙ reverse-reverse way') in
        other (at' ∙ (ap (λ (z : List ℕ). z ++ k ∷ q) (sym ways) ∙ sym at)))
        (λ longer.
        let more = longer_way way way' longer in
        let below : j ∷ p ≡ more.0 ∷ more.1 ++ j' ∷ p' = at ∙ (ap (λ (z : List ℕ). z ++ k ∷ q) more.2 ∙ (append_assoc (more.0 ∷ more.1) way' (k ∷ q) ∙ ap (λ (z : Place). more.0 ∷ more.1 ++ z) (sym at'))) in
        not_above more.0 more.1 j' p' (subst Enabled below on) on')
        rest))
        (zeros_first (reverse way) (reverse way') (first_turned way first))

    pub child_is_opened : AreMapped key m → NoneOffers key m w false → (k i : ℕ) (p q : Place) (s : Standing) (j : ℕ) (way : List ℕ) → IsBest key m w true q k s → AreFirst (j ∷ way) → i ∷ p ≡ j ∷ way ++ k ∷ q → Enabled (i ∷ p) → IsPick key m w i p
    child_is_opened mapped none k i p q s j way best zeros at on = record { enabled = on; first = first }
      where
        offer : Offered true q k s
        offer = best.best.offered

        t : Way key is laws m known (i ∷ p)
        t = record { way = j ∷ way; item = k; place = q; is_on_way = at; ready = record { free = offer.free; task = offer.task; in_job = record { job = offer.job; is_open = offer.is_open; has_task = offer.has_task } } }

        mine : CalledBy i p t
        mine = called mapped none i p on t

        full_is : mine.full ≡ with_way s (reverse (j ∷ way))
        full_is = mine.full_is ∙ ap (λ (x : Standing). with_way x (reverse (j ∷ way))) (offers_once true q k mine.offer s mine.offered offer)

        first : (j' : ℕ) (p' : Place) → Enabled (j' ∷ p') → j' ∷ p' ≢ i ∷ p → GoesBefore key m w i p j' p'
        first j' p' on' other = record { one = mine.full; other = theirs.full; one_stands = mine.stands_so; other_stands = theirs.stands_so; before = before }
          where
            t' : Way key is laws m known (j' ∷ p')
            t' = way_of key is laws m known (j' ∷ p') on'

            theirs : CalledBy j' p' t'
            theirs = called mapped none j' p' on' t'

            same_call : t'.item ∷ t'.place ≡ k ∷ q → goes_before (with_way s (reverse (j ∷ way))) (with_way theirs.offer (reverse t'.way)) ≡ true
            same_call e =
                let place : t'.place ≡ q = tail_is t'.item k t'.place q e in
                let item : t'.item ≡ k = let f : t'.item ∷ t'.place ≡ k ∷ q = e in cc in
                let again : Offered true q k theirs.offer = subst (λ (z : ℕ). Offered true q z theirs.offer) item (subst (λ (z : Place). Offered true z t'.item theirs.offer) place theirs.offered) in
                let one : s ≡ theirs.offer = offers_once true q k s theirs.offer offer again in
                let at' : j' ∷ p' ≡ t'.way ++ k ∷ q = t'.is_on_way ∙ ap (λ (z : Place). t'.way ++ z) e in
                subst (λ (x : Standing). goes_before (with_way s (reverse (j ∷ way))) (with_way x (reverse t'.way)) ≡ true) one
                (zeros_go i p j' p' s (j ∷ way) t'.way k q zeros at at' on on' other)

            before : goes_before mine.full theirs.full ≡ true
            before =
                let core : goes_before (with_way s (reverse (j ∷ way))) (with_way theirs.offer (reverse t'.way)) ≡ true =
                ⊎_elim
                (λ (e : t'.item ∷ t'.place ≡ k ∷ q). same_call e)
                (λ (apart : (t'.item ∷ t'.place) ≢ (k ∷ q)). way_is_last s theirs.offer (reverse (j ∷ way)) (reverse t'.way) offer.within_is theirs.offered.within_is (best_first true q k s best t'.place t'.item theirs.offer theirs.offered apart))
                (place_cases (t'.item ∷ t'.place) (k ∷ q)) in
                subst (λ (x : Standing). goes_before x theirs.full ≡ true) (sym full_is) (subst (λ (x : Standing). goes_before (with_way s (reverse (j ∷ way))) x ≡ true) (sym theirs.full_is) core)
