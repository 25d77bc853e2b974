-- The table while jobs are closed, from one row up.
use Rattle.std.proofs.Common.{◌≡◌, ◌≢◌, ⊎_elim, ℕ, ◌<◌, Bool, true, false, List, [], ◌∷◌, length, get_or, set, Option, Some, None, Result, refl, sym, ap, ◌∙◌, subst}
use Rattle.std.proofs.lemmas.Bool.{cases_eq}
use Rattle.std.proofs.lemmas.List.{get_or-set_other, get_or-set_same}
use Rattle.std.specs.Option.{option_map}
use Rattle.job_preparing.specs.Handing.{answers, end_of, mark_at}
use Rattle.job_preparing.specs.declared.handing.JobGiven.{JobGiven}
use Rattle.job_rules.specs.Items.{job_rules, outcome}
use Rattle.job_rules.specs.Meant.{rank}
use Rattle.job_rules.specs.Words.{Answer, answer_of}
use Rattle.nested_jobs.proofs.Appending.{state-snoc}
use Rattle.nested_jobs.proofs.Nesting.{journal_nested, quiet_idle, top_open}
use Rattle.nested_jobs.proofs.Places.{cons_ne}
use Rattle.nested_jobs.proofs.Tabling.{none_below, put_row_at, quiet_is, stops}
use Rattle.nested_jobs.specs.Journals as steps
use Rattle.nested_jobs.specs.Journals.{after, start}
use Rattle.nested_jobs.specs.Marks as mark
use Rattle.nested_jobs.specs.Marks.{Busy, Done, Free, Mark, Marks, Open, put}
use Rattle.nested_jobs.specs.Meanings.{Lawful, Within}
use Rattle.nested_jobs.specs.Rules.{Place}
use Rattle.nested_jobs.specs.Tables.{answers_in, is_quiet_row, put_row, with_mark}
use Rattle.graph_firing.specs.Calls as job
use Rattle.graph_firing.specs.View.{IsQuiet, answered, outcome_in}
use Rattle.pisdf_meaning.specs.declared.firing.Firing.{Firing}
use Rattle.pisdf_meaning.specs.declared.refusal.Refusal.{Refusal}
use Rattle.pisdf_model.specs.declared.graph.Graphs.{Graphs}
use Rattle.board_rules.specs.Asking.{JobRow}
use Rattle.board_rules.specs.Board.{IsClosing, OpenJobs}
use Rattle.board_rules.specs.BoardLaws.{ClosingsEnd, ClosingsGoOn, ClosingsStop, IsOver}
use Rattle.board_rules.specs.Entries.{BoardState}
use Rattle.board_rules.specs.Keys.{IsKey, Key, rules, top_job}
use Rattle.board_rules.specs.Legal.{state_after}
use Rattle.firing_board.specs.Table.Calls.{StaysAs}
use Rattle.firing_board.specs.Table.Closing.{ClosesTo, IsClosingFrom, RowsStay, held_after, steps_with}
use Rattle.firing_board.specs.Table.Suits.{IsUpper, RowSuits, Suits}
use Rattle.firing_board.specs.Table.View.{TableView, job_row, row_at, table_of, with_job}
use Rattle.firing_board.specs.declared.table.row.Row.{Row}
use Rattle.firing_board.proofs.OfTable.Paths.{grows_by}
use Rattle.firing_board.proofs.OfTable.Rows.{in_table, inside_of, marked_row, stays_same, the_same}
use Rattle.firing_board.proofs.OfTable.Suiting.{StillThere, row_stays}
use Rattle.firing_board.proofs.OfTable.Writes.{mark_inside}

-- ---- the row round a row

pub record HasUpper (v : TableView) (p : Place) (k : ℕ) : Type 0 where
  pub item : ℕ
  pub upper : Row
  pub here : row_at v k ≡ Some upper
  pub place_is : p ≡ item ∷ upper.place

pub upper_in : (v : TableView) (p : Place) (k : ℕ) → IsUpper v p (Some k) → HasUpper v p k
upper_in v [] k is = absurd (cc)
upper_in v (i ∷ p) k is = record { item = i; upper = is.0; here = is.1; place_is = ap (λ (q : Place). i ∷ q) (sym is.2) }

pub top_in : (v : TableView) (p : Place) → IsUpper v p None → p ≡ []
top_in v [] is = refl
top_in v (i ∷ p) is = absurd is

upper_kept : (old new : TableView) (p : Place) (upper : Option ℕ) → IsUpper old p upper → ((i k : ℕ) (row : Row) → row_at old k ≡ Some row → p ≡ i ∷ row.place → StillThere new k row) → IsUpper new p upper
upper_kept old new [] upper is still = is
upper_kept old new (i ∷ p) None is still = absurd is
upper_kept old new (i ∷ p) (Some k) is still = let t = still i k is.0 is.1 (ap (λ (q : Place). i ∷ q) (sym is.2)) in (t.0, t.1, t.2 ∙ is.2)

-- how deep the job in a row is
abbrev pub depth_of : Option Row → ℕ
depth_of None = 0
depth_of (Some row) = length row.place

-- ---- a row less

pub gone : (old new : TableView) (k : ℕ) → new.rows ≡ set old.rows k None → k < length old.rows → row_at new k ≡ None
gone old new k rows inside = ap (λ (l : List (Option Row)). get_or l k None) rows ∙ get_or-set_same old.rows k None None inside

pub left : (old new : TableView) (k : ℕ) → new.rows ≡ set old.rows k None → (j : ℕ) → j ≢ k → row_at new j ≡ row_at old j
left old new k rows j apart = ap (λ (l : List (Option Row)). get_or l j None) rows ∙ get_or-set_other old.rows k j None None apart

table_less : (old new : TableView) (k : ℕ) → new.rows ≡ set old.rows k None → k < length old.rows → table_of new ≡ put_row (table_of old) k None
table_less old new k rows inside =
    let at : (l : ℕ) → table_of new l ≡ put_row (table_of old) k None l = λ l.
    ⊎_elim
    (λ t. ap (table_of new) (sym t.0) ∙ (ap (option_map job_row) (gone old new k rows inside) ∙ sym t.1))
    (λ t. ap (option_map job_row) (left old new k rows l (λ e. t.0 (sym e))) ∙ sym t.1)
    (put_row_at (table_of old) k None l) in
    λ x l. at l x

pub rows_same : (v : TableView) → RowsStay v v
rows_same v = record {
  graphs_are = refl;
  workers_are = refl;
  rows = λ j after now. (after, now, stays_same after, refl, refl);
  busy = λ j i before here is. (before, here, stays_same before, λ n still. still, λ n a told. told);
}

pub rows_less : (old new : TableView) (k : ℕ) → new.graphs ≡ old.graphs → new.workers ≡ old.workers → new.rows ≡ set old.rows k None → k < length old.rows → ((row : Row) → row_at old k ≡ Some row → (i : ℕ) → mark_at row.job.marks i ≢ Busy) → RowsStay old new
rows_less old new k graphs workers rows inside idle = record {
  graphs_are = graphs;
  workers_are = workers;
  rows = λ j after now. ⊎_elim
      (λ (e : j ≡ k). let no : None ≡ Some after = sym (gone old new k rows inside) ∙ (ap (row_at new) (sym e) ∙ now) in absurd (cc))
      (λ apart. (after, sym (left old new k rows j apart) ∙ now, stays_same after, refl, refl))
      (cases_eq j k);
  busy = λ j i before here is. ⊎_elim
      (λ (e : j ≡ k). absurd (idle before (ap (row_at old) (sym e) ∙ here) i is))
      (λ apart. (before, left old new k rows j apart ∙ here, stays_same before, λ n still. still, λ n a told. told))
      (cases_eq j k);
}

stays_through : (one two three : Row) → StaysAs one two → StaysAs two three → StaysAs one three
stays_through one two three a b = record {
  place_is = b.place_is ∙ a.place_is;
  upper_is = b.upper_is ∙ a.upper_is;
  steps_are = b.steps_are ∙ a.steps_are;
  graphs_are = b.graphs_are ∙ a.graphs_are;
  workers_are = b.workers_are ∙ a.workers_are;
  firing_is = b.firing_is ∙ a.firing_is;
  cells_stay = λ cells is. b.cells_stay cells (a.cells_stay cells is);
}

pub rows_through : (one two three : TableView) → RowsStay one two → RowsStay two three → RowsStay one three
rows_through one two three a b = record {
  graphs_are = b.graphs_are ∙ a.graphs_are;
  workers_are = b.workers_are ∙ a.workers_are;
  rows = λ j after now.
      let t = b.rows j after now in
      let u = a.rows j t.0 t.1 in
      (u.0, u.1, stays_through u.0 t.0 after u.2 t.2, t.3 ∙ u.3, t.4 ∙ u.4);
  busy = λ j i before here is.
      let t = a.busy j i before here is in
      let u = b.busy j i t.0 t.1 (t.3 i is) in
      (u.0, u.1, stays_through before t.0 u.0 t.2 u.2, λ n still. u.3 n (t.3 n still), λ n x told. u.4 n x (t.4 n x told));
}

-- ---- quiet jobs

pub quiet_so : (key : Key) (row : Row) → row.job.graphs ≡ key.graphs → IsQuiet row.job → is_quiet_row (rules key) (job_row row) ≡ true
quiet_so key row graphs quiet = subst (λ (g : Graphs). is_quiet_row (job_rules g.graphs) (job_row row) ≡ true) graphs quiet.settled

not_quiet : (key : Key) (row : Row) → row.job.graphs ≡ key.graphs → ¬ (IsQuiet row.job) → is_quiet_row (rules key) (job_row row) ≡ false
not_quiet key row graphs unquiet = go (is_quiet_row (rules key) (job_row row)) refl
  where
    go : (b : Bool) → is_quiet_row (rules key) (job_row row) ≡ b → is_quiet_row (rules key) (job_row row) ≡ false
    go true e = absurd (unquiet record { settled = subst (λ (g : Graphs). is_quiet_row (job_rules g.graphs) (job_row row) ≡ true) (sym graphs) e })
    go false e = e

outcome_so : (key : Key) (row : Row) → row.job.graphs ≡ key.graphs → outcome_in row.job ≡ outcome key.graphs.graphs row.job.firing (answers_in (job_row row))
outcome_so key row graphs = ap (λ (g : Graphs). outcome g.graphs row.job.firing (answered row.job)) graphs

-- ---- a closing

abbrev pub AllLawful : Type 0
AllLawful = (key : Key) → IsKey key → Lawful (rules key) (rank key.graphs.graphs)

module _ (lawful : AllLawful) (v : TableView) (k : ℕ) (c : IsClosingFrom v k) where
  law : Lawful (rules c.key) (rank c.key.graphs.graphs)
  law = lawful c.key c.suits.is_key

  abbrev row : JobRow
  row = job_row c.row

  pub graphs_so : c.row.job.graphs ≡ c.key.graphs
  graphs_so = (c.suits.rows k c.row c.here).graphs_are

  here : table_of v k ≡ Some row
  here = in_table v k c.row c.here

  next_is : state_after c.key (steps_with c) ≡ after (rules c.key) (state_after c.key c.taken) (steps.Finish c.worker c.answer)
  next_is = state-snoc (rules c.key) (start (top_job c.key)) c.taken (steps.Finish c.worker c.answer)

  -- no item of a quiet job is busy
  pub none_busy : IsQuiet c.row.job → (i : ℕ) → mark_at c.row.job.marks i ≢ Busy
  none_busy quiet i busy =
      let is = c.suits.stands.rows k row here in
      let quiet_there = quiet_is (rules c.key) c.marks row is ∙ quiet_so c.key c.row graphs_so quiet in
      (quiet_idle (rules c.key) (rank c.key.graphs.graphs) law (top_job c.key) c.marks row.job row.place i c.closing.nested is.is_open quiet_there).0 (is.items i ∙ busy)

  pub none_busy_at : IsQuiet c.row.job → (r : Row) → row_at v k ≡ Some r → (i : ℕ) → mark_at r.job.marks i ≢ Busy
  none_busy_at quiet r at = subst (λ (x : Row). (i : ℕ) → mark_at x.job.marks i ≢ Busy) (the_same (row_at v k) c.row r c.here at) (none_busy quiet)

  -- the top job is open where the row's job is
  pub top_so : Suits c.key (state_after c.key (steps_with c)).marks v → (job : Firing) × ((state_after c.key (steps_with c)).marks [] ≡ Open job)
  top_so suited =
      top_open (rules c.key) (rank c.key.graphs.graphs) law (top_job c.key) (state_after c.key (steps_with c)).marks c.row.place c.row.job.firing suited.nested (suited.stands.rows k row here).is_open

  -- it stops at a job that isn't quiet
  pub stop_so : ClosingsStop → ¬ (IsQuiet c.row.job) → ClosesTo c v None × Suits c.key (state_after c.key (steps_with c)).marks v
  stop_so stop unquiet =
      let unsettled = not_quiet c.key c.row graphs_so unquiet in
      let still = stops (rules c.key) (rank c.key.graphs.graphs) law (top_job c.key) (table_of v) c.marks c.closing.nested c.closing.stands k row here unsettled in
      let marks : (state_after c.key (steps_with c)).marks ≡ c.marks = ap (λ (s : BoardState). s.marks) next_is ∙ (c.closing.goes_on ∙ still) in (
        stop c.key c.taken c.held c.worker c.answer (table_of v) c.marks k row c.suits.is_key c.closing here unsettled,
        subst (λ (n : Marks Firing Answer). Suits c.key n v) (sym marks) c.suits,
      )

  -- it ends at the top job
  module _ (quiet : IsQuiet c.row.job) where
    pub end_so : ClosingsEnd → (new : TableView) → c.row.place ≡ [] → new.graphs ≡ v.graphs → new.workers ≡ v.workers → new.rows ≡ set v.rows k None → (end : Result JobGiven Refusal) → answer_of (end_of end) ≡ outcome_in c.row.job
        → ClosesTo c new (Some end) × Suits c.key (state_after c.key (steps_with c)).marks new
    end_so ends new place graphs workers rows end is =
        let over = ends c.key c.taken c.held c.worker c.answer (table_of v) c.marks k row c.suits.is_key (subst (IsClosing c.key c.taken c.held c.worker c.answer (table_of v) c.marks) place c.closing) here place (quiet_so c.key c.row graphs_so quiet) in
        let table = table_less v new k rows (inside_of v.rows k c.row c.here) in
        let result = sym (is ∙ outcome_so c.key c.row graphs_so) in
        let told : IsOver c.key (steps_with c) (table_of new) (held_after c) (answer_of (end_of end)) =
        subst (λ (a : Answer). IsOver c.key (steps_with c) (table_of new) (held_after c) a) result (subst (λ (t : OpenJobs). IsOver c.key (steps_with c) t (held_after c) (outcome c.key.graphs.graphs row.job (answers_in row))) (sym table) over) in
        let nested = journal_nested (rules c.key) (rank c.key.graphs.graphs) law (top_job c.key) (steps_with c) in (
          told,
          record {
            is_key = c.suits.is_key;
            graphs_are = graphs ∙ c.suits.graphs_are;
            workers_are = workers ∙ c.suits.workers_are;
            nested = nested;
            stands = told.kept.stands;
            rows = λ j after now.
                let t = top_open (rules c.key) (rank c.key.graphs.graphs) law (top_job c.key) (state_after c.key (steps_with c)).marks after.place after.job.firing nested (told.kept.stands.rows j (job_row after) (in_table new j after now)).is_open in
                let no : Done (answer_of (end_of end)) ≡ Open t.0 = sym told.done ∙ t.1 in
                absurd (cc);
          },
        )

    -- it goes on at the row of the item that called the job
    module _ (go_on : ClosingsGoOn) (l item : ℕ) (up : Row) (above : row_at v l ≡ Some up) (place : c.row.place ≡ item ∷ up.place) where
      pub keys_apart : l ≢ k
      keys_apart e =
          let same : c.row ≡ up = the_same (row_at v k) c.row up c.here (ap (row_at v) (sym e) ∙ above) in
          cons_ne item up.place (sym place ∙ ap (λ (r : Row). r.place) same)

      abbrev out : Answer
      out = outcome c.key.graphs.graphs row.job (answers_in row)

      gone_on : ((job_row up).marks item ≡ Open row.job)
          × IsClosing c.key c.taken c.held c.worker c.answer (put_row (put_row (table_of v) k None) l (Some (with_mark (job_row up) item (Done out)))) (put c.marks (item ∷ up.place) (Done out)) up.place
      gone_on = go_on c.key c.taken c.held c.worker c.answer (table_of v) c.marks k l item row (job_row up) c.suits.is_key (subst (IsClosing c.key c.taken c.held c.worker c.answer (table_of v) c.marks) place c.closing) here (in_table v l up above) place (quiet_so c.key c.row graphs_so quiet)

      pub called : mark_at up.job.marks item ≡ Open c.row.job.firing
      called = gone_on.0

      module _ (rest mid : TableView) (y : Answer) (is : y ≡ outcome_in c.row.job) (graphs : mid.graphs ≡ v.graphs) (workers : mid.workers ≡ v.workers) (less : rest.rows ≡ set v.rows k None) (rows : mid.rows ≡ set rest.rows l (Some (with_job up (job.with_mark up.job item (Done y))))) where
        abbrev now_up : Row
        now_up = with_job up (job.with_mark up.job item (Done y))

        rest_up : row_at rest l ≡ Some up
        rest_up = left v rest k less l keys_apart ∙ above

        pub mid_up : row_at mid l ≡ Some now_up
        mid_up = ap (λ (x : List (Option Row)). get_or x l None) rows ∙ get_or-set_same rest.rows l (Some now_up) None (inside_of rest.rows l up rest_up)

        mid_other : (j : ℕ) → j ≢ l → row_at mid j ≡ row_at rest j
        mid_other j apart = ap (λ (x : List (Option Row)). get_or x j None) rows ∙ get_or-set_other rest.rows l j (Some now_up) None apart

        mid_gone : row_at mid k ≡ None
        mid_gone = mid_other k (λ e. keys_apart (sym e)) ∙ gone v rest k less (inside_of v.rows k c.row c.here)

        up_stays : StaysAs up now_up
        up_stays = record { place_is = refl; upper_is = refl; steps_are = refl; graphs_are = refl; workers_are = refl; firing_is = refl; cells_stay = λ cells is. is }

        up_marked : job_row now_up ≡ with_mark (job_row up) item (Done y)
        up_marked = marked_row up now_up item (Done y) up_stays
            (get_or-set_same up.job.marks item (Done y) Free (mark_inside up.job.marks item (Open c.row.job.firing) called (λ e. cc)))
            (λ i apart. get_or-set_other up.job.marks item i (Done y) Free apart)

        abbrev closed_table : Answer → OpenJobs
        closed_table a = put_row (put_row (table_of v) k None) l (Some (with_mark (job_row up) item (Done a)))

        mid_table : table_of mid ≡ closed_table y
        mid_table =
            let at : (j : ℕ) → table_of mid j ≡ closed_table y j = λ j.
            ⊎_elim
            (λ t. ap (table_of mid) (sym t.0) ∙ (in_table mid l now_up mid_up ∙ (ap (λ (r : JobRow). Some r) up_marked ∙ sym t.1)))
            (λ t. ap (option_map job_row) (mid_other j (λ e. t.0 (sym e))) ∙ (ap (λ (f : OpenJobs). f j) (table_less v rest k less (inside_of v.rows k c.row c.here)) ∙ sym t.1))
            (put_row_at (put_row (table_of v) k None) l (Some (with_mark (job_row up) item (Done y))) j) in
            λ x j. at j x

        up_unmarked : (n : ℕ) → n ≢ item → mark_at now_up.job.marks n ≡ mark_at up.job.marks n
        up_unmarked n apart = get_or-set_other up.job.marks item n (Done y) Free apart

        still_busy : (n : ℕ) → mark_at up.job.marks n ≡ Busy → mark_at now_up.job.marks n ≡ Busy
        still_busy n busy = ⊎_elim
            (λ (e : n ≡ item). let no : Busy ≡ Open c.row.job.firing = sym busy ∙ (ap (mark_at up.job.marks) e ∙ called) in absurd (cc))
            (λ apart. up_unmarked n apart ∙ busy)
            (cases_eq n item)

        still_answered : Within (answers up.job.marks) (answers now_up.job.marks)
        still_answered n a told = ⊎_elim
            (λ (e : n ≡ item). let no : Some a ≡ None = sym told ∙ ap mark.answer_of (ap (mark_at up.job.marks) e ∙ called) in absurd (cc))
            (λ apart. ap mark.answer_of (up_unmarked n apart) ∙ told)
            (cases_eq n item)

        abbrev marks : Marks Firing Answer
        marks = put c.marks (item ∷ up.place) (Done y)

        pub closing : IsClosing c.key c.taken c.held c.worker c.answer (table_of mid) marks up.place
        closing =
            let same : out ≡ y = sym (is ∙ outcome_so c.key c.row graphs_so) in
            let P : Answer → Type 0 = λ a. IsClosing c.key c.taken c.held c.worker c.answer (closed_table a) (put c.marks (item ∷ up.place) (Done a)) up.place in
            subst (λ (t : OpenJobs). IsClosing c.key c.taken c.held c.worker c.answer t marks up.place) (sym mid_table) (subst P same gone_on.1)

        pub suits : Suits c.key marks mid
        suits =
            let open_item : c.marks (item ∷ up.place) ≡ Open c.row.job.firing = (c.suits.stands.rows l (job_row up) (in_table v l up above)).items item ∙ called in
            let grows = grows_by c.key c.marks (item ∷ up.place) (Done y) (ap mark.answer_of open_item) (λ d e. absurd (cc)) in
            let upper_now : (j : ℕ) (r : Row) → row_at v j ≡ Some r → IsUpper mid r.place r.upper = λ j r at.
            upper_kept v mid r.place r.upper (c.suits.rows j r at).upper_is
            (λ i n other there below. ⊎_elim
            (λ (e : n ≡ l). (now_up, ap (row_at mid) e ∙ mid_up, ap (λ (x : Row). x.place) (the_same (row_at v l) up other above (ap (row_at v) (sym e) ∙ there))))
            (λ apart. ⊎_elim
            (λ (e : n ≡ k).
            let own : c.row ≡ other = the_same (row_at v k) c.row other c.here (ap (row_at v) (sym e) ∙ there) in
            absurd (none_below (rules c.key) (rank c.key.graphs.graphs) law (top_job c.key) (table_of v) c.marks c.closing.nested c.closing.stands k row here j i (job_row r) (in_table v j r at) (quiet_so c.key c.row graphs_so quiet) (below ∙ ap (λ (x : Row). i ∷ x.place) (sym own))))
            (λ other_key. (other, mid_other n apart ∙ (left v rest k less n other_key ∙ there), refl))
            (cases_eq n k))
            (cases_eq n l)) in
            record {
              is_key = c.suits.is_key;
              graphs_are = graphs ∙ c.suits.graphs_are;
              workers_are = workers ∙ c.suits.workers_are;
              nested = closing.nested;
              stands = closing.stands;
              rows = λ j after now. ⊎_elim
                  (λ (e : j ≡ l). subst (RowSuits c.key marks mid) (the_same (row_at mid l) now_up after mid_up (ap (row_at mid) (sym e) ∙ now)) (row_stays c.key law c.marks marks v mid c.suits closing.nested grows closing.stands l up now_up above mid_up up_stays (upper_now l up above)))
                  (λ apart. ⊎_elim
                  (λ (e : j ≡ k). let no : None ≡ Some after = sym mid_gone ∙ (ap (row_at mid) (sym e) ∙ now) in absurd (cc))
                  (λ other_key.
                  let at : row_at v j ≡ Some after = sym (left v rest k less j other_key) ∙ (sym (mid_other j apart) ∙ now) in
                  row_stays c.key law c.marks marks v mid c.suits closing.nested grows closing.stands j after after at now (stays_same after) (upper_now j after at))
                  (cases_eq j k))
                  (cases_eq j l);
            }

        abbrev pub next_so : IsClosingFrom mid l
        next_so = record { key = c.key; taken = c.taken; held = c.held; worker = c.worker; answer = c.answer; marks = marks; row = now_up; here = mid_up; closing = closing; suits = suits }

        pub next_stays : RowsStay v mid
        next_stays = record {
          graphs_are = graphs;
          workers_are = workers;
          rows = λ j after now. ⊎_elim
              (λ (e : j ≡ l).
              let same : now_up ≡ after = the_same (row_at mid l) now_up after mid_up (ap (row_at mid) (sym e) ∙ now) in
              (up, ap (row_at v) e ∙ above, subst (StaysAs up) same up_stays, ap (λ (r : Row). r.job.lent) (sym same), ap (λ (r : Row). r.job.room) (sym same)))
              (λ apart. ⊎_elim
              (λ (e : j ≡ k). let no : None ≡ Some after = sym mid_gone ∙ (ap (row_at mid) (sym e) ∙ now) in absurd (cc))
              (λ other_key. (after, sym (left v rest k less j other_key) ∙ (sym (mid_other j apart) ∙ now), stays_same after, refl, refl))
              (cases_eq j k))
              (cases_eq j l);
          busy = λ j i before at is. ⊎_elim
              (λ (e : j ≡ l).
              let same : up ≡ before = the_same (row_at v l) up before above (ap (row_at v) (sym e) ∙ at) in
              let P : Row → Type 0 = λ (r : Row). StaysAs r now_up × ((n : ℕ) → mark_at r.job.marks n ≡ Busy → mark_at now_up.job.marks n ≡ Busy) × Within (answers r.job.marks) (answers now_up.job.marks) in
              let kept = subst P same (up_stays, still_busy, still_answered) in
              (now_up, ap (row_at mid) e ∙ mid_up, kept.0, kept.1, kept.2))
              (λ apart. ⊎_elim
              (λ (e : j ≡ k). absurd (none_busy_at quiet before (ap (row_at v) (sym e) ∙ at) i is))
              (λ other_key. (before, mid_other j apart ∙ (left v rest k less j other_key ∙ at), stays_same before, λ n still. still, λ n a told. told))
              (cases_eq j k))
              (cases_eq j l);
        }
