-- A table suits the marks after a call, where it suited those before.
use Rattle.std.proofs.Common.{◌≡◌, ⊎_elim, ℕ, [], ◌∷◌, ◌++◌, Option, Some, None, refl, sym, ap, ◌∙◌, subst}
use Rattle.std.proofs.lemmas.Bool.{cases_eq}
use Rattle.std.specs.Option.{option_map}
use Rattle.job_preparing.specs.Handing.{mark_at}
use Rattle.job_rules.specs.Items.{graph_of, prepared_in, rule}
use Rattle.job_rules.specs.Meant.{rank}
use Rattle.job_rules.specs.Words.{Answer, Work as ItemWork}
use Rattle.nested_jobs.proofs.Finding.{claimed_ready}
use Rattle.nested_jobs.proofs.Nesting.{begins_nested, start_nested}
use Rattle.nested_jobs.proofs.Tabling.{answers_are, claims, finishes_so, opens_so, starts_with}
use Rattle.nested_jobs.specs.Journals.{start, start_mark}
use Rattle.nested_jobs.specs.Invariants.{InJob, Nested}
use Rattle.nested_jobs.specs.Marks as mark
use Rattle.nested_jobs.specs.Marks.{Busy, Done, Free, Mark, Marks, Open, put, values}
use Rattle.nested_jobs.specs.Meanings.{Lawful}
use Rattle.nested_jobs.specs.Rules.{Call, Place, Values, Work}
use Rattle.nested_jobs.specs.Steps.{claimed}
use Rattle.nested_jobs.specs.Tables.{IsRow, StandsFor, answers_in, put_row, with_mark}
use Rattle.graph_firing.specs.Paths as job
use Rattle.graph_firing.specs.View.{task}
use Rattle.pisdf_meaning.specs.declared.firing.Firing.{Firing}
use Rattle.pisdf_model.specs.declared.graph.Graphs.{Graphs}
use Rattle.board_rules.specs.Asking.{JobRow}
use Rattle.board_rules.specs.Board.{OpenJobs}
use Rattle.board_rules.specs.Keys.{IsKey, Key, rules, top_job}
use Rattle.board_rules.specs.Picks.{step_of_item, steps_to}
use Rattle.firing_board.specs.Table.Calls.{IsStarted, MarksItem, OpensChild, StaysAs}
use Rattle.firing_board.specs.Table.Suits.{IsUpper, RowSuits, Suits}
use Rattle.firing_board.specs.Table.View.{TableView, job_row, row_at, table_of}
use Rattle.firing_board.specs.declared.table.row.Row.{Row}
use Rattle.firing_board.proofs.OfTable.Paths.{Grows, grows_by, paths_stay, same_step, step_at, step_stays}
use Rattle.firing_board.proofs.OfTable.Rows.{in_table, stays_same, table_marks, table_opens, table_starts, the_same}

-- a row that stays at its key, at its place
abbrev pub StillThere : TableView → ℕ → Row → Type 0
StillThere v k row = (after : Row) × (row_at v k ≡ Some after) × (after.place ≡ row.place)

pub upper_stays : (old new : TableView) (p : Place) (upper : Option ℕ) → IsUpper old p upper → ((k : ℕ) (row : Row) → upper ≡ Some k → row_at old k ≡ Some row → StillThere new k row) → IsUpper new p upper
upper_stays old new [] upper is still = is
upper_stays old new (i ∷ p) None is still = absurd is
upper_stays old new (i ∷ p) (Some k) is still = let t = still k is.0 refl is.1 in (t.0, t.1, t.2 ∙ is.2)

module _ (key : Key) (lawful : Lawful (rules key) (rank key.graphs.graphs)) where
  abbrev ranks : Firing → ℕ
  ranks = rank key.graphs.graphs

  -- a row that stays
  pub row_stays : (m n : Marks Firing Answer) (old new : TableView) → Suits key m old → Nested (rules key) (top_job key) n → Grows key m n → StandsFor (table_of new) n
      → (k : ℕ) (before after : Row) → row_at old k ≡ Some before → row_at new k ≡ Some after → StaysAs before after → IsUpper new before.place before.upper → RowSuits key n new after
  row_stays m n old new suits nested grows stands k before after was now stays upper =
      let row = suits.rows k before was in
      let open_m : m before.place ≡ Open before.job.firing = (suits.stands.rows k (job_row before) (in_table old k before was)).is_open in
      let open_n : n after.place ≡ Open after.job.firing = (stands.rows k (job_row after) (in_table new k after now)).is_open in
      let same = paths_stay key lawful m n suits.nested nested grows before.place before.job.firing after.job.firing open_m (ap n (sym stays.place_is) ∙ open_n) in
      record {
        graphs_are = stays.graphs_are ∙ row.graphs_are;
        workers_are = stays.workers_are ∙ row.workers_are;
        steps_are = stays.steps_are ∙ (row.steps_are ∙ (sym same ∙ ap (steps_to key n) (sym stays.place_is)));
        upper_is = subst (λ (p : Place). IsUpper new p after.upper) (sym stays.place_is) (subst (λ (u : Option ℕ). IsUpper new before.place u) (sym stays.upper_is) upper);
      }

  -- ---- one mark

  module _ (m : Marks Firing Answer) (k item : ℕ) (y : Mark Firing Answer) (old new : TableView) (o : MarksItem k item y old new) (suits : Suits key m old) where
    still : (l : ℕ) (row : Row) → row_at old l ≡ Some row → StillThere new l row
    still l row here = ⊎_elim
        (λ (e : l ≡ k). (o.after, ap (row_at new) e ∙ o.now, o.stays.place_is ∙ ap (λ (r : Row). r.place) (the_same (row_at old k) o.before row o.here (ap (row_at old) (sym e) ∙ here))))
        (λ apart. (row, o.others l apart apart ∙ here, refl))
        (cases_eq l k)

    pub mark_suits : (n : Marks Firing Answer) → Nested (rules key) (top_job key) n → Grows key m n → StandsFor (table_of new) n → Suits key n new
    mark_suits n nested grows stands = record {
      is_key = suits.is_key;
      graphs_are = o.graphs_are ∙ suits.graphs_are;
      workers_are = o.workers_are ∙ suits.workers_are;
      nested = nested;
      stands = stands;
      rows = λ l after now. ⊎_elim
          (λ (e : l ≡ k).
          let is : o.after ≡ after = the_same (row_at new k) o.after after o.now (ap (row_at new) (sym e) ∙ now) in
          subst (RowSuits key n new) is (row_stays m n old new suits nested grows stands k o.before o.after o.here o.now o.stays (upper_of k o.before o.here)))
          (λ apart.
          let here : row_at old l ≡ Some after = sym (o.others l apart apart) ∙ now in
          row_stays m n old new suits nested grows stands l after after here now (stays_same after) (upper_of l after here))
          (cases_eq l k);
    }
      where
        upper_of : (l : ℕ) (row : Row) → row_at old l ≡ Some row → IsUpper new row.place row.upper
        upper_of l row here = upper_stays old new row.place row.upper (suits.rows l row here).upper_is (λ j r e there. still j r there)

    abbrev row : JobRow
    row = job_row o.before

    own : IsRow m row
    own = suits.stands.rows k row (in_table old k o.before o.here)

    pub claim_suits : (work : ItemWork) → y ≡ Busy → mark_at o.before.job.marks item ≡ Free → task o.before.job item ≡ Some (Work work) → Suits key (claimed (rules key) m (item ∷ o.before.place)) new
    claim_suits work busy free task_is =
        let graphs = (suits.rows k o.before o.here).graphs_are in
        let has : rule key.graphs.graphs row.job (answers_in row) item ≡ Some (Work work) = subst (λ (g : Graphs). rule g.graphs row.job (answers_in row) item ≡ Some (Work work)) graphs task_is in
        let c = claims (rules key) ranks lawful (top_job key) (table_of old) m suits.nested suits.stands k row (in_table old k o.before o.here) item work free has in
        let open_free : m (item ∷ o.before.place) ≡ Free = own.items item ∙ free in
        let same_answers = answers_are (table_of old) m suits.stands k row (in_table old k o.before o.here) in
        let job : InJob (rules key) m item o.before.place (Work work) = record { job = row.job; is_open = own.is_open; has_task = ap (λ (v : Values Answer). rule key.graphs.graphs row.job v item) same_answers ∙ has } in
        let ready : claimed (rules key) m (item ∷ o.before.place) ≡ put m (item ∷ o.before.place) Busy = claimed_ready (rules key) ranks lawful (top_job key) m item o.before.place work suits.nested open_free job in
        let nested = begins_nested (rules key) ranks lawful (top_job key) m item o.before.place work suits.nested open_free job in
        let grows = grows_by key m (item ∷ o.before.place) Busy (ap mark.answer_of open_free) (λ d e. absurd (cc)) in
        let table : table_of new ≡ _ = table_marks k item y old new o in
        let stands : StandsFor (table_of new) (claimed (rules key) m (item ∷ o.before.place)) =
        subst (λ (t : OpenJobs). StandsFor t (claimed (rules key) m (item ∷ o.before.place))) (sym (table ∙ ap (λ (x : Mark Firing Answer). put_at_key x) busy)) c.1 in
        subst (λ (n : Marks Firing Answer). Suits key n new) (sym ready) (mark_suits (put m (item ∷ o.before.place) Busy) nested grows (subst (λ (n : Marks Firing Answer). StandsFor (table_of new) n) ready stands))
      where
        put_at_key : Mark Firing Answer → OpenJobs
        put_at_key x = put_row (table_of old) k (Some (with_mark row item x))

    pub finish_suits : (answer : Answer) → y ≡ Done answer → mark_at o.before.job.marks item ≡ Busy → Suits key (put m (item ∷ o.before.place) (Done answer)) new
    finish_suits answer done busy =
        let f = finishes_so (rules key) ranks lawful (top_job key) (table_of old) m suits.nested suits.stands k row (in_table old k o.before o.here) item answer busy in
        let table : table_of new ≡ put_at_key (Done answer) = table_marks k item y old new o ∙ ap put_at_key done in
        let grows = grows_by key m (item ∷ o.before.place) (Done answer) (ap mark.answer_of (own.items item ∙ busy)) (λ d e. absurd (cc)) in
        mark_suits (put m (item ∷ o.before.place) (Done answer)) f.nested grows (subst (λ (t : OpenJobs). StandsFor t (put m (item ∷ o.before.place) (Done answer))) (sym table) f.stands)
      where
        put_at_key : Mark Firing Answer → OpenJobs
        put_at_key x = put_row (table_of old) k (Some (with_mark row item x))

  -- ---- a row more

  module _ (m : Marks Firing Answer) (k item l : ℕ) (old new : TableView) (o : OpensChild k item old l new) (suits : Suits key m old) where
    abbrev above : JobRow
    above = job_row o.upper

    abbrev place : Place
    place = item ∷ o.upper.place

    abbrev later : Marks Firing Answer
    later = put m place (Open o.firing)

    upper_suits : RowSuits key m old o.upper
    upper_suits = suits.rows k o.upper o.here

    above_row : IsRow m above
    above_row = suits.stands.rows k above (in_table old k o.upper o.here)

    key_task : rule key.graphs.graphs above.job (answers_in above) item ≡ Some (Call o.firing)
    key_task = subst (λ (g : Graphs). rule g.graphs above.job (answers_in above) item ≡ Some (Call o.firing)) upper_suits.graphs_are o.task_is

    same_answers : values m o.upper.place ≡ answers_in above
    same_answers = answers_are (table_of old) m suits.stands k above (in_table old k o.upper o.here)

    vacant : table_of old l ≡ None
    vacant = ap (option_map job_row) o.vacant

    child_still : (j : ℕ) (row : Row) → row_at old j ≡ Some row → StillThere new j row
    child_still j row here = ⊎_elim
        (λ (e : j ≡ k). (o.after, ap (row_at new) e ∙ o.now, o.stays.place_is ∙ ap (λ (r : Row). r.place) (the_same (row_at old k) o.upper row o.here (ap (row_at old) (sym e) ∙ here))))
        (λ apart. (row, o.others j apart (λ e. let no : None ≡ Some row = sym o.vacant ∙ (ap (row_at old) (sym e) ∙ here) in cc) ∙ here, refl))
        (cases_eq j k)

    pub open_suits : Suits key later new
    open_suits =
        let t = opens_so (rules key) ranks lawful (top_job key) (table_of old) m suits.nested suits.stands k above (in_table old k o.upper o.here) l item o.firing vacant o.free key_task in
        let stands : StandsFor (table_of new) later = subst (λ (x : OpenJobs). StandsFor x later) (sym (table_opens k item l old new o)) t.stands in
        let open_free : m place ≡ Free = above_row.items item ∙ o.free in
        let grows = grows_by key m place (Open o.firing) (ap mark.answer_of open_free) (λ d e. open_free) in
        let upper_now : (j : ℕ) (row : Row) → row_at old j ≡ Some row → IsUpper new row.place row.upper = λ j row here. upper_stays old new row.place row.upper (suits.rows j row here).upper_is (λ i r e there. child_still i r there) in
        let open_n : later o.upper.place ≡ Open above.job = ap later (sym o.stays.place_is) ∙ ((stands.rows k (job_row o.after) (in_table new k o.after o.now)).is_open ∙ ap Open o.stays.firing_is) in
        let path = paths_stay key lawful m later suits.nested t.nested grows o.upper.place above.job above.job above_row.is_open open_n in
        let within = (grows.same o.upper.place above.job above.job above_row.is_open open_n).1 in
        let task_m : rule key.graphs.graphs above.job (values m o.upper.place) item ≡ Some (Call o.firing) = ap (λ (v : Values Answer). rule key.graphs.graphs above.job v item) same_answers ∙ key_task in
        let step = step_stays key above.job (values m o.upper.place) (values later o.upper.place) within item o.firing task_m in
        let known : job.step_of o.upper.job item ≡ step_of_item key (graph_of key.graphs.graphs above.job) above.job item (prepared_in (graph_of key.graphs.graphs above.job) (values m o.upper.place)) =
        ap (λ (g : Graphs). job.step_of_item g.graphs (graph_of g.graphs above.job) above.job item (prepared_in (graph_of g.graphs above.job) (answers_in above))) upper_suits.graphs_are
        ∙ (same_step key (graph_of key.graphs.graphs above.job) above.job item (prepared_in (graph_of key.graphs.graphs above.job) (answers_in above))
        ∙ ap (λ (v : Values Answer). step_of_item key (graph_of key.graphs.graphs above.job) above.job item (prepared_in (graph_of key.graphs.graphs above.job) v)) (sym same_answers)) in
        let upper_steps : o.upper.steps ≡ steps_to key later o.upper.place = upper_suits.steps_are ∙ sym path in
        let own_step = known ∙ sym step in
        let child_suits : RowSuits key later new o.child = record {
          graphs_are = o.fresh.graphs_are ∙ suits.graphs_are;
          workers_are = o.fresh.workers_are ∙ suits.workers_are;
          steps_are = o.steps_are ∙ ((λ x. upper_steps x ++ own_step x ∷ []) ∙ (sym (step_at key later item o.upper.place above.job open_n) ∙ ap (steps_to key later) (sym o.place_is)));
          upper_is = subst (λ (p : Place). IsUpper new p o.child.upper) (sym o.place_is) (subst (λ (u : Option ℕ). IsUpper new place u) (sym o.upper_is) (o.after, o.now, o.stays.place_is));
        } in
        record {
          is_key = suits.is_key;
          graphs_are = o.graphs_are ∙ suits.graphs_are;
          workers_are = o.workers_are ∙ suits.workers_are;
          nested = t.nested;
          stands = stands;
          rows = λ j after now. ⊎_elim
              (λ (e : j ≡ l). subst (RowSuits key later new) (the_same (row_at new l) o.child after o.added (ap (row_at new) (sym e) ∙ now)) child_suits)
              (λ other. ⊎_elim
              (λ (e : j ≡ k). subst (RowSuits key later new) (the_same (row_at new k) o.after after o.now (ap (row_at new) (sym e) ∙ now)) (row_stays m later old new suits t.nested grows stands k o.upper o.after o.here o.now o.stays (upper_now k o.upper o.here)))
              (λ apart. let here : row_at old j ≡ Some after = sym (o.others j apart other) ∙ now in row_stays m later old new suits t.nested grows stands j after after here now (stays_same after) (upper_now j after here))
              (cases_eq j k))
              (cases_eq j l);
        }

  -- ---- the start

  pub start_suits : (v : TableView) → IsKey key → IsStarted key.graphs key.workers (top_job key) v → Suits key (start {A = Answer} (top_job key)).marks v
  start_suits v is s = record {
    is_key = is;
    graphs_are = s.graphs_are;
    workers_are = s.workers_are;
    nested = start_nested (rules key) ranks lawful (top_job key);
    stands = subst (λ (t : OpenJobs). StandsFor t (start_mark {A = Answer} (top_job key))) (sym (table_starts key.graphs key.workers (top_job key) v s)) (starts_with (top_job key) s.key);
    rows = λ k row here. ⊎_elim
        (λ (e : k ≡ s.key). subst (RowSuits key (start_mark (top_job key)) v) (the_same (row_at v s.key) s.top row s.here (ap (row_at v) (sym e) ∙ here)) top_suits)
        (λ apart. let no : None ≡ Some row = sym (s.others k apart) ∙ here in absurd (cc))
        (cases_eq k s.key);
  }
    where
      top_suits : RowSuits key (start_mark (top_job key)) v s.top
      top_suits = record {
        graphs_are = s.fresh.graphs_are;
        workers_are = s.fresh.workers_are;
        steps_are = s.steps_are ∙ ap (steps_to key (start_mark (top_job key))) (sym s.place_is);
        upper_is = subst (λ (p : Place). IsUpper v p s.top.upper) (sym s.place_is) s.upper_is;
      }
