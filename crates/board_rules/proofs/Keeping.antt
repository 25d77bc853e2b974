-- What code keeps of a board stays with its steps.
use Rattle.std.proofs.Common.{◌≡◌, ◌≢◌, ◌⊎◌, ⊎_elim, inl, inr, ℕ, ◌<◌, true, false, cond, eqb, Option, Some, None, List, [], ◌∷◌, ◌++◌, refl, sym, ap, ◌∙◌, subst}
use Rattle.std.proofs.lemmas.Bool.{eqb-true, eq-eqb}
use Rattle.pisdf_meaning.specs.declared.firing.Firing.{Firing}
use Rattle.nested_jobs.specs.Rules.{Call, Place, Work}
use Rattle.nested_jobs.specs.Marks.{Busy, Done, Free, Mark, Marks, Open, put, values}
use Rattle.nested_jobs.specs.Journals as steps
use Rattle.nested_jobs.specs.Journals.{Allowed, MayClaim, MayFinish, after, assign, start, task_of}
use Rattle.nested_jobs.specs.Invariants.{InJob, Keeps}
use Rattle.nested_jobs.specs.Steps.{claimed, is_quiet}
use Rattle.nested_jobs.specs.Tables.{IsRow, Row, StandsFor, answers_in, fresh_row, is_quiet_row, put_row, with_mark}
use Rattle.nested_jobs.proofs.Appending.{state-snoc}
use Rattle.nested_jobs.proofs.Nesting.{of_busy, quiet_idle}
use Rattle.nested_jobs.proofs.Places.{cons_ne, one_open, put_other}
use Rattle.nested_jobs.proofs.Running.{assign_at}
use Rattle.nested_jobs.proofs.Tabling.{answers_are, claims, closes_so, closes_top_so, finishes_so, opens_so, put_row_at, quiet_is, starts_with, stops}
use Rattle.nested_jobs.proofs.Turns.{task_is}
use Rattle.job_rules.specs.Doing.{Answers}
use Rattle.job_rules.specs.Items.{outcome, rule}
use Rattle.job_rules.specs.Meant.{rank}
use Rattle.job_rules.specs.Words as words
use Rattle.job_rules.specs.Words.{Answer}
use Rattle.board_rules.specs.Keys.{IsKey, Key, rules, top_job}
use Rattle.board_rules.specs.Entries.{BoardState, Step}
use Rattle.board_rules.specs.Legal.{AreLegal, state_after}
use Rattle.board_rules.specs.Picks.{IsPick}
use Rattle.board_rules.specs.Board.{HasOpened, Held, IsClosing, KeepsRows, KeptAs, OpenJobs, RunsAs, hold}
use Rattle.board_rules.specs.BoardLaws.{IsHeld, IsOver}
use Rattle.board_rules.proofs.Entering.{one_more}
use Rattle.board_rules.proofs.Known.{BoardLaws, keeps}

-- ---- what workers hold

hold_at : (held : Held) (w : ℕ) (h : Option (ℕ × ℕ)) (v : ℕ) → ((w ≡ v) × (hold held w h v ≡ h)) ⊎ ((w ≢ v) × (hold held w h v ≡ held v))
hold_at held w h v =
    elim (eqb w v) as (λ b. eqb w v ≡ b → ((w ≡ v) × (cond b h (held v) ≡ h)) ⊎ ((w ≢ v) × (cond b h (held v) ≡ held v))) [
      | true ↦ λ e. inl (eqb-true w v e, refl)
      | false ↦ λ e. inr ((λ f. let t = eq-eqb w v f in cc), refl)
    ]
    refl

-- the row with this key is still there, at its place
abbrev Still : OpenJobs → OpenJobs → ℕ → Type 0
Still old new k = (row : Row Firing Answer) → old k ≡ Some row → (later : Row Firing Answer) × (new k ≡ Some later) × (later.place ≡ row.place)

runs_still : (old new : OpenJobs) (r : Option Place) (h : Option (ℕ × ℕ)) → ((k i : ℕ) → h ≡ Some (k, i) → Still old new k) → RunsAs old r h → RunsAs new r h
runs_still old new r None rows runs = runs
runs_still old new r (Some h) rows runs =
    let later = rows h.0 h.1 refl runs.0 runs.1 in
    (later.0, later.1, runs.2 ∙ ap (λ (p : Place). Some (h.1 ∷ p)) (sym later.2))

-- a row that is marked
marked_still : (table : OpenJobs) (k : ℕ) (row : Row Firing Answer) (i : ℕ) (y : Mark Firing Answer) → table k ≡ Some row → KeepsRows table (put_row table k (Some (with_mark row i y)))
marked_still table k row i y here l other there = ⊎_elim
    (λ t. let same : row ≡ other = let e : Some row ≡ Some other = sym here ∙ (ap table t.0 ∙ there) in cc in (with_mark row i y, t.1, ap (λ (r : Row Firing Answer). r.place) same))
    (λ t. (other, t.1 ∙ there, refl))
    (put_row_at table k (Some (with_mark row i y)) l)

-- a row that is added
added_still : (table : OpenJobs) (l : ℕ) (row : Option (Row Firing Answer)) → table l ≡ None → KeepsRows table (put_row table l row)
added_still table l row free k other there = ⊎_elim
    (λ t. let no : None ≡ Some other = sym free ∙ (ap table t.0 ∙ there) in absurd (cc))
    (λ t. (other, t.1 ∙ there, refl))
    (put_row_at table l row k)

rows_through : (one two three : OpenJobs) → KeepsRows one two → KeepsRows two three → KeepsRows one three
rows_through one two three first second k row here =
    let a = first k row here in
    let b = second k a.0 a.1 in
    (b.0, b.1, b.2 ∙ a.2)

-- one that is taken away doesn't touch the others
removed_still : (table : OpenJobs) (k l : ℕ) → k ≢ l → Still table (put_row table k None) l
removed_still table k l apart row here = ⊎_elim (λ t. absurd (apart t.0)) (λ t. (row, t.1 ∙ here, refl)) (put_row_at table k None l)

module _ (key : Key) (is : IsKey key) (laws : BoardLaws key) where
  abbrev ranks : Firing → ℕ
  ranks = rank key.graphs.graphs

  abbrev at_state : List Step → BoardState
  at_state taken = state_after key taken

  kept_by : (taken : List Step) (table : OpenJobs) (held : Held) (s : BoardState) → at_state taken ≡ s → AreLegal key taken → StandsFor table s.marks → ((w : ℕ) → w < key.workers → RunsAs table (s.running w) (held w)) → KeptAs key taken table held
  kept_by taken table held s s_is legal stands runs = record {
    legal = legal;
    stands = subst (λ (z : BoardState). StandsFor table z.marks) (sym s_is) stands;
    runs = λ w lt. subst (λ (z : BoardState). RunsAs table (z.running w) (held w)) (sym s_is) (runs w lt);
  }

  next_is : (taken : List Step) (e : Step) → at_state (taken ++ e ∷ []) ≡ after (rules key) (at_state taken) e
  next_is taken e = state-snoc (rules key) (start (top_job key)) taken e

  pub begins : (k : ℕ) → KeptAs key [] (put_row (λ l. None) k (Some (fresh_row [] (top_job key)))) (λ w. None)
  begins k = record { legal = record { allowed = tt; picked = tt }; stands = starts_with (top_job key) k; runs = λ w lt. refl }

  -- ---- openings

  module _ (taken : List Step) (table : OpenJobs) (held : Held) (kept : KeptAs key taken table held) where
    abbrev s : BoardState
    s = at_state taken

    keeps_so : Keeps (rules key) (top_job key) key.workers s
    keeps_so = keeps key is laws taken kept.legal

    pub nothing_opened : (a : Place) → HasOpened key table s.marks a table s.marks
    nothing_opened a = record { nested = keeps_so.nested; stands = kept.stands; rows = λ k row here. (row, here, refl); claims = refl; enables = λ on. on }

    -- ---- claims

    idle_is : (w : ℕ) → w < key.workers → held w ≡ None → s.running w ≡ None
    idle_is w lt idle = subst (RunsAs table (s.running w)) idle (kept.runs w lt)

    pub claims_keep : (w k i : ℕ) (row : Row Firing Answer) (work : words.Work) (later : OpenJobs) (n : Marks Firing Answer) → w < key.workers → held w ≡ None → IsPick key s.marks w i row.place → HasOpened key table s.marks (i ∷ row.place) later n →
        later k ≡ Some row → row.marks i ≡ Free → rule key.graphs.graphs row.job (answers_in row) i ≡ Some (Work work) →
        KeptAs key (taken ++ steps.Claim w (i ∷ row.place) ∷ []) (put_row later k (Some (with_mark row i Busy))) (hold held w (Some (k, i)))
    claims_keep w k i row work later n lt idle pick opened here free task =
        let a : Place = i ∷ row.place in
        let e : Step = steps.Claim w a in
        let may : Allowed (rules key) (Answers key.graphs.graphs) key.workers s e = record { is_worker = lt; runs_none = idle_is w lt idle; enabled = pick.enabled } in
        let new : OpenJobs = put_row later k (Some (with_mark row i Busy)) in
        let claimed_so = claims (rules key) ranks laws.lawful (top_job key) later n opened.nested opened.stands k row here i work free task in
        let stands : StandsFor new (claimed (rules key) s.marks a) = subst (StandsFor new) (sym opened.claims) claimed_so.1 in
        let still = rows_through table later new opened.rows (marked_still later k row i Busy here) in
        kept_by (taken ++ e ∷ []) new (hold held w (Some (k, i))) (after (rules key) s e) (next_is taken e) (one_more key is laws taken e kept.legal (may, pick)) stands
        (λ v v_lt. ⊎_elim
        (λ t. subst (RunsAs new (assign s.running w (Some a) v)) (sym t.1) (with_mark row i Busy, at_k new later k row i, ran w a v t.0))
        (λ t. subst (RunsAs new (assign s.running w (Some a) v)) (sym t.1) (subst (λ (r : Option Place). RunsAs new r (held v)) (sym (ran_other w a v t.0)) (runs_still table new (s.running v) (held v) (λ l j same r there. still l r there) (kept.runs v v_lt))))
        (hold_at held w (Some (k, i)) v))
      where
        at_k : (new later : OpenJobs) (k : ℕ) (row : Row Firing Answer) (i : ℕ) → put_row later k (Some (with_mark row i Busy)) k ≡ Some (with_mark row i Busy)
        at_k new later k row i = ⊎_elim (λ t. t.1) (λ t. absurd (t.0 refl)) (put_row_at later k (Some (with_mark row i Busy)) k)

        ran : (w : ℕ) (a : Place) (v : ℕ) → w ≡ v → assign s.running w (Some a) v ≡ Some a
        ran w a v same = ⊎_elim (λ t. t.1) (λ t. absurd (t.0 same)) (assign_at s.running w (Some a) v)

        ran_other : (w : ℕ) (a : Place) (v : ℕ) → w ≢ v → assign s.running w (Some a) v ≡ s.running v
        ran_other w a v apart = ⊎_elim (λ t. absurd (apart t.0)) (λ t. t.1) (assign_at s.running w (Some a) v)

    -- ---- finishes

    module _ (w k i : ℕ) (row : Row Firing Answer) (lt : w < key.workers) (holds : held w ≡ Some (k, i)) (here : table k ≡ Some row) where
      runs_it : s.running w ≡ Some (i ∷ row.place)
      runs_it =
          let r = subst (RunsAs table (s.running w)) holds (kept.runs w lt) in
          let same : r.0 ≡ row = let e : Some r.0 ≡ Some row = sym r.1 ∙ here in cc in
          r.2 ∙ ap (λ (x : Row Firing Answer). Some (i ∷ x.place)) same

      own_row : IsRow s.marks row
      own_row = kept.stands.rows k row here

      pub held_busy : IsHeld key i row
      held_busy =
          let busy : s.marks (i ∷ row.place) ≡ Busy = keeps_so.is_busy w (i ∷ row.place) runs_it in
          let t = of_busy (rules key) ranks laws.lawful (top_job key) s.marks i row.place keeps_so.nested busy in
          let job : t.1.job ≡ row.job = one_open s.marks row.place t.1.job row.job t.1.is_open own_row.is_open in
          let P : Firing → Type 0 = λ f. rule key.graphs.graphs f (values s.marks row.place) i ≡ Some (Work t.0) in
          record {
            busy = sym (own_row.items i) ∙ busy;
            work = t.0;
            task = ap (λ v. rule key.graphs.graphs row.job v i) (sym (answers_are table s.marks kept.stands k row here)) ∙ subst P job t.1.has_task;
          }

      pub finishes_begin : (work : words.Work) (answer : Answer) → rule key.graphs.graphs row.job (answers_in row) i ≡ Some (Work work) → Answers key.graphs.graphs work answer →
          IsClosing key taken held w answer (put_row table k (Some (with_mark row i (Done answer)))) (put s.marks (i ∷ row.place) (Done answer)) row.place
      finishes_begin work answer task answered =
          let a : Place = i ∷ row.place in
          let e : Step = steps.Finish w answer in
          let job : InJob (rules key) s.marks i row.place (Work work) = record { job = row.job; is_open = own_row.is_open; has_task = ap (λ v. rule key.graphs.graphs row.job v i) (answers_are table s.marks kept.stands k row here) ∙ task } in
          let may : Allowed (rules key) (Answers key.graphs.graphs) key.workers s e = record { is_worker = lt; place = a; runs = runs_it; work = work; is_work = task_is (rules key) s.marks i row.place (Work work) job; answered = answered } in
          let f = finishes_so (rules key) ranks laws.lawful (top_job key) table s.marks keeps_so.nested kept.stands k row here i answer held_busy.busy in
          let new : OpenJobs = put_row table k (Some (with_mark row i (Done answer))) in
          record {
            allowed = one_more key is laws taken e kept.legal (may, tt);
            item = a;
            runs = runs_it;
            nested = f.nested;
            stands = f.stands;
            goes_on = ap (λ (r : Option Place). (steps.finish_of (rules key) s w answer r).marks) runs_it ∙ f.closes;
            others = λ v v_lt apart. runs_still table new (s.running v) (held v) (λ l j same r there. marked_still table k row i (Done answer) here l r there) (kept.runs v v_lt);
            busy = λ v b apart runs. put_other s.marks a (Done answer) b (λ same. apart (sym (keeps_so.by_one w v a runs_it (runs ∙ ap Some (sym same))))) ∙ keeps_so.is_busy v b runs;
          }

  pub one_more_opened : (old : OpenJobs) (m : Marks Firing Answer) (table : OpenJobs) (n : Marks Firing Answer) (k l i j : ℕ) (way : List ℕ) (row : Row Firing Answer) (d : Firing) → HasOpened key old m (j ∷ way ++ i ∷ row.place) table n →
      table k ≡ Some row → table l ≡ None → row.marks i ≡ Free → rule key.graphs.graphs row.job (answers_in row) i ≡ Some (Call d) →
      HasOpened key old m (j ∷ way ++ i ∷ row.place) (put_row (put_row table k (Some (with_mark row i (Open d)))) l (Some (fresh_row (i ∷ row.place) d))) (put n (i ∷ row.place) (Open d))
  one_more_opened old m table n k l i j way row d opened here free_key free task =
      let o = opens_so (rules key) ranks laws.lawful (top_job key) table n opened.nested opened.stands k row here l i d free_key free task in
      let middle : OpenJobs = put_row table k (Some (with_mark row i (Open d))) in
      let last : OpenJobs = put_row middle l (Some (fresh_row (i ∷ row.place) d)) in
      let empty : middle l ≡ None = ⊎_elim (λ t. let no : None ≡ Some row = sym free_key ∙ (ap table (sym t.0) ∙ here) in absurd (cc)) (λ t. t.1 ∙ free_key) (put_row_at table k (Some (with_mark row i (Open d))) l) in
      record {
        nested = o.nested;
        stands = o.stands;
        rows = rows_through old table last opened.rows (rows_through table middle last (marked_still table k row i (Open d) here) (added_still middle l (Some (fresh_row (i ∷ row.place) d)) empty));
        claims = opened.claims ∙ o.claims j way;
        enables = λ on. opened.enables (o.enables j way on);
      }

  -- ---- closings

  module _ (taken : List Step) (held : Held) (w : ℕ) (answer : Answer) (table : OpenJobs) (n : Marks Firing Answer) where
    abbrev before : BoardState
    before = at_state taken

    abbrev later : BoardState
    later = after (rules key) before (steps.Finish w answer)

    abbrev Closing : Place → Type 0
    Closing p = IsClosing key taken held w answer table n p

    module _ (k : ℕ) (row : Row Firing Answer) (here : table k ≡ Some row) where
      -- no worker runs an item of a job that is quiet
      not_quiet : (p : Place) → Closing p → is_quiet_row (rules key) row ≡ true → (v j : ℕ) → before.running v ≡ Some (j ∷ row.place) → v ≢ w → ⊥
      not_quiet p c quiet v j runs apart =
          let own = c.stands.rows k row here in
          let quiet_so : is_quiet (rules key) n row.job row.place ≡ true = quiet_is (rules key) n row own ∙ quiet in
          (quiet_idle (rules key) ranks laws.lawful (top_job key) n row.job row.place j c.nested own.is_open quiet_so).0 (c.busy v (j ∷ row.place) apart runs)

      apart_from : (p : Place) → Closing p → is_quiet_row (rules key) row ≡ true → (v : ℕ) → v < key.workers → v ≢ w → (l j : ℕ) → held v ≡ Some (l, j) → k ≢ l
      apart_from p c quiet v v_lt apart l j holds same =
          let r = subst (RunsAs table (before.running v)) holds (c.others v v_lt apart) in
          let row_same : r.0 ≡ row = let e : Some r.0 ≡ Some row = sym r.1 ∙ (ap table (sym same) ∙ here) in cc in
          not_quiet p c quiet v j (r.2 ∙ ap (λ (x : Row Firing Answer). Some (j ∷ x.place)) row_same) apart

      pub closings_go_on : (l i : ℕ) (upper : Row Firing Answer) → Closing (i ∷ upper.place) → table l ≡ Some upper → row.place ≡ i ∷ upper.place → is_quiet_row (rules key) row ≡ true →
          (upper.marks i ≡ Open row.job)
          × IsClosing key taken held w answer (put_row (put_row table k None) l (Some (with_mark upper i (Done (outcome key.graphs.graphs row.job (answers_in row))))))
          (put n (i ∷ upper.place) (Done (outcome key.graphs.graphs row.job (answers_in row)))) upper.place
      closings_go_on l i upper c above place_is quiet =
          let t = closes_so (rules key) ranks laws.lawful (top_job key) table n c.nested c.stands k row here l i upper above place_is quiet in
          let y : Mark Firing Answer = Done (outcome key.graphs.graphs row.job (answers_in row)) in
          let rest : OpenJobs = put_row table k None in
          let new : OpenJobs = put_row rest l (Some (with_mark upper i y)) in
          let own = c.stands.rows k row here in
          let open_here : n (i ∷ upper.place) ≡ Open row.job = ap n (sym place_is) ∙ own.is_open in
          let k_l : k ≢ l = λ same. let e : Some row ≡ Some upper = sym here ∙ (ap table same ∙ above) in let r : row ≡ upper = cc in let p : row.place ≡ upper.place = ap (λ (x : Row Firing Answer). x.place) r in cons_ne i upper.place (sym place_is ∙ p) in
          let above_still : rest l ≡ Some upper = ⊎_elim (λ u. absurd (k_l u.0)) (λ u. u.1 ∙ above) (put_row_at table k None l) in (
            t.was,
            record {
              allowed = c.allowed;
              item = c.item;
              runs = c.runs;
              nested = t.nested;
              stands = t.stands;
              goes_on = c.goes_on ∙ t.goes_on;
              others = λ v v_lt apart. runs_still table new (before.running v) (held v)
                  (λ e j holds r there.
                  let one = removed_still table k e (apart_from (i ∷ upper.place) c quiet v v_lt apart e j holds) r there in
                  let two = marked_still rest l upper i y above_still e one.0 one.1 in
                  (two.0, two.1, two.2 ∙ one.2))
                  (c.others v v_lt apart);
              busy = λ v b apart runs. put_other n (i ∷ upper.place) y b (λ same. let busy : n b ≡ Busy = c.busy v b apart runs in let no : n b ≡ Open row.job = ap n (sym same) ∙ open_here in cc) ∙ c.busy v b apart runs;
            },
          )

      running_is : (p : Place) → Closing p → later.running ≡ assign before.running w None
      running_is p c = ap (λ (r : Option Place). (steps.finish_of (rules key) before w answer r).running) c.runs

      -- what is kept once the closings are done
      done_so : (p : Place) (c : Closing p) (new : OpenJobs) → StandsFor new later.marks → ((v : ℕ) → v < key.workers → v ≢ w → RunsAs new (before.running v) (held v)) → KeptAs key (taken ++ steps.Finish w answer ∷ []) new (hold held w None)
      done_so p c new stands others =
          kept_by (taken ++ steps.Finish w answer ∷ []) new (hold held w None) later (next_is taken (steps.Finish w answer)) c.allowed stands
          (λ v v_lt.
          let running : later.running v ≡ assign before.running w None v = ap (λ (f : ℕ → Option Place). f v) (running_is p c) in
          ⊎_elim
          (λ t. subst (RunsAs new (later.running v)) (sym t.1) (running ∙ ⊎_elim (λ u. u.1) (λ u. absurd (u.0 t.0)) (assign_at before.running w None v)))
          (λ t. subst (RunsAs new (later.running v)) (sym t.1) (subst (λ (r : Option Place). RunsAs new r (held v)) (sym (running ∙ ⊎_elim (λ u. absurd (t.0 u.0)) (λ u. u.1) (assign_at before.running w None v))) (others v v_lt (λ e. t.0 (sym e)))))
          (hold_at held w None v))

      pub closings_stop : Closing row.place → is_quiet_row (rules key) row ≡ false → KeptAs key (taken ++ steps.Finish w answer ∷ []) table (hold held w None)
      closings_stop c unsettled =
          let still = stops (rules key) ranks laws.lawful (top_job key) table n c.nested c.stands k row here unsettled in
          done_so row.place c table (subst (StandsFor table) (sym (c.goes_on ∙ still)) c.stands) c.others

      pub closings_end : Closing [] → row.place ≡ [] → is_quiet_row (rules key) row ≡ true → IsOver key (taken ++ steps.Finish w answer ∷ []) (put_row table k None) (hold held w None) (outcome key.graphs.graphs row.job (answers_in row))
      closings_end c place_is quiet =
          let t = closes_top_so (rules key) ranks laws.lawful (top_job key) table n c.nested c.stands k row here place_is quiet in
          let rest : OpenJobs = put_row table k None in
          record {
            kept = done_so [] c rest (subst (StandsFor rest) (sym c.goes_on) t.stands)
                (λ v v_lt apart. runs_still table rest (before.running v) (held v) (λ e j holds r there. removed_still table k e (apart_from [] c quiet v v_lt apart e j holds) r there) (c.others v v_lt apart));
            done = ap (λ (s : BoardState). s.marks []) (next_is taken (steps.Finish w answer)) ∙ (ap (λ (f : Marks Firing Answer). f []) c.goes_on ∙ t.done);
          }
