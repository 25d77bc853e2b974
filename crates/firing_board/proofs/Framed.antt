-- What a worker ran is back, and its item has an answer.
use Rattle.std.proofs.Common.{◌≡◌, ◌≢◌, ⊎_elim, ℕ, ◌<◌, Bool, true, false, List, [], ◌∷◌, ◌++◌, set, get_or, Option, Some, None, Result, Ok, Err, refl, sym, ap, ◌∙◌, subst, arith}
use Rattle.std.proofs.lemmas.Bool.{cases_eq}
use Rattle.std.specs.Prelude.{IfOk, is_err}
use Rattle.kernel_gate.specs.declared.fault.KernelFault.{KernelFault}
use Rattle.graph_firing.specs.Calls.{IsSoundFor}
use Rattle.kernel_gate.specs.Value.{FrameView, Places}
use Rattle.job_preparing.specs.Handing.{answer_with, answers, end_of, lent_at, mark_at}
use Rattle.job_preparing.specs.declared.handing.JobGiven.{JobGiven}
use Rattle.job_rules.specs.Doing.{Answers}
use Rattle.job_rules.specs.Meant.{rank}
use Rattle.job_rules.specs.Words as words
use Rattle.job_rules.specs.Words.{Answer, answer_of}
use Rattle.nested_jobs.specs.Journals as steps
use Rattle.nested_jobs.specs.Marks as mark
use Rattle.nested_jobs.specs.Marks.{Busy, Done, Mark, Open, put}
use Rattle.nested_jobs.specs.Meanings.{Lawful, Within}
use Rattle.nested_jobs.specs.Rules.{Place, Work}
use Rattle.nested_jobs.specs.Tables.{put_row, with_mark}
use Rattle.graph_firing.specs.View.{task}
use Rattle.pisdf_meaning.specs.declared.firing.Firing.{Firing}
use Rattle.pisdf_meaning.specs.declared.refusal.Refusal.{Refusal}
use Rattle.board_rules.specs.Board.{Held, IsClosing, KeptAs, OpenJobs, hold}
use Rattle.board_rules.specs.BoardLaws.{FinishesAreEntered, FinishesBegin, HeldAreBusy}
use Rattle.board_rules.specs.Entries.{BoardState, Step}
use Rattle.board_rules.specs.Keys.{Key, rules}
use Rattle.board_rules.specs.Laws.{JournalsTellSteps, WorkHasOneAnswer}
use Rattle.board_rules.specs.Legal.{state_after}
use Rattle.firing_board.specs.Table.Calls.{LendsItem, MarksItem, StaysAs}
use Rattle.firing_board.specs.Table.Closing.{Closes, ClosesTo, IsClosingFrom}
use Rattle.firing_board.specs.Table.Laws.{FinishesSuit, TablesMark}
use Rattle.firing_board.specs.Table.View.{TableView, job_row, lent_by, lent_in, row_at, table_of}
use Rattle.firing_board.specs.declared.table.row.Row.{Row}
use Rattle.firing_board.specs.Closing.{ClosesOn, KeepsJournal, latest}
use Rattle.firing_board.specs.Core.{AreNumbered, HasEnd, IsEndFor, IsNumbered, RowsGoOn, RowsLast, held_of, lent_of, lent_with}
use Rattle.firing_board.specs.Finishes.{Finishes}
use Rattle.firing_board.specs.Invariants.{Keeps, StandsOrStarves, view_with}
use Rattle.firing_board.specs.OnCore.{FinishesOn}
use Rattle.firing_board.specs.Returning.{HasFinish, MayReturn, Returns, RunsItem}
use Rattle.firing_board.specs.Runs.{Runs, RunsWork}
use Rattle.firing_board.specs.Starved.{StarvesAt}
use Rattle.firing_board.specs.declared.state.Core.{Core}
use Rattle.firing_board.specs.declared.run.Run.{Run}
use Rattle.firing_board.proofs.Leaving.{Mine, finishes_by, keeps_by, lent_at_worker, mine, others_apart, starves_next}
use Rattle.firing_board.proofs.Fields.{same_steps}
use Rattle.firing_board.proofs.Openings.{task_by}
use Rattle.firing_board.proofs.Rows.{firings_go_on, in_table, last_go_on, marks_rows, rows_close, stays_same, the_same}
use Rattle.firing_board.proofs.Runners.{held_as, held_set, inside_of, runners_less}

-- the laws that are used here
pub record FinishLaws (key : Key) : Type 0 where
  pub held : HeldAreBusy
  pub begin : FinishesBegin
  pub entered : FinishesAreEntered
  pub one : WorkHasOneAnswer
  pub tell : JournalsTellSteps
  pub suit : FinishesSuit
  pub marks : TablesMark
  pub lawful : Lawful (rules key) (rank key.graphs.graphs)

not_both : (m : Mark Firing Answer) (job : Firing) (x : Answer) → m ≡ Open job → m ≡ Done x → ⊥
not_both m job x one two = cc

one_answer : (m : Mark Firing Answer) (x y : Answer) → m ≡ Done x → m ≡ Done y → x ≡ y
one_answer m x y one two = cc

-- a row stays, with what is busy in it and what is answered
abbrev pub LastsAs : Row → ℕ → TableView → ℕ → Type 0
LastsAs before i new k = (row : Row) × (row_at new k ≡ Some row) × StaysAs before row × (mark_at row.job.marks i ≡ Busy) × Within (answers before.job.marks) (answers row.job.marks)

-- the work that a worker runs, by the steps that the board keeps
pub runs_at : (tell : JournalsTellSteps) (key : Key) (old : Core) (starved : Bool) (keeps : Keeps key old starved) (w : ℕ) (P : words.Work → Type 0) (r : Runs (view_with key old starved) w P) → RunsWork key (state_after key keeps.taken) w r.work
runs_at tell key old starved keeps w P r = subst (λ (x : List Step). RunsWork key (state_after key x) w r.work) (same_steps tell key old starved keeps r.taken r.at) r.runs

-- the frame is out that comes back
pub may_return : (key : Key) (s : BoardState) (old : Core) (w : ℕ) (work : words.Work) (a : Mine key s old w work) (frame : FrameView) (sound : Type 0) → get_or (lent_of old.table old.running.items) w None ≡ Some frame.places
    → IsSoundFor (Some (Work work)) sound → RunsItem (MayReturn frame sound) old w
may_return key s old w work a frame sound lent so = record {
  run = a.run;
  runs = a.runs;
  row = a.row;
  here = a.here;
  so = record {
    busy = a.busy;
    lent = sym (ap (lent_with old.table) a.runs) ∙ (sym (lent_at_worker old.table old.running.items w) ∙ lent);
    sound_so = subst (λ t. IsSoundFor t sound) (sym a.task_is) so;
  };
}

pub has_room : (key : Key) (s : BoardState) (old : Core) (starved : Bool) → Keeps key old starved → (w : ℕ) (work : words.Work) → Mine key s old w work → 0 < old.journal.room
has_room key s old starved keeps w work a = let less = runners_less old.running.items w a.run a.runs in let room = keeps.room in omega arith

-- the frame is back
pub record IsBack (key : Key) (s : BoardState) (old : Core) (w : ℕ) (work : words.Work) (a : Mine key s old w work) (answer : Answer) (mid : Core) (k : ℕ) : Type 0 where
  pub row_is : k ≡ a.run.row
  pub marks : MarksItem a.run.row a.run.item (Done answer) old.table mid.table
  pub lends : LendsItem a.run.row a.run.item None old.table mid.table

pub is_back : (key : Key) (s : BoardState) (old : Core) (w : ℕ) (work : words.Work) (a : Mine key s old w work) (frame : FrameView) (result : Result (Unit {0}) KernelFault) (mid : Core) (k : ℕ) → Returns frame result old w mid k
    → IsBack key s old w work a (answer_with (Some (Work work)) frame result) mid k
is_back key s old w work a frame result mid k r =
    let run : r.run ≡ a.run = the_same (get_or old.running.items w None) r.run a.run r.leaves.ran a.runs in
    let row : r.row ≡ a.row = the_same (row_at old.table a.run.row) r.row a.row (ap (λ (x : Run). row_at old.table x.row) (sym run) ∙ r.here) a.here in
    let does : task r.row.job r.run.item ≡ Some (Work work) = ap (λ (x : Row). task x.job r.run.item) row ∙ (ap (λ (x : Run). task a.row.job x.item) run ∙ a.task_is) in
    record {
      row_is = r.row_is ∙ ap (λ (x : Run). x.row) run;
      marks = subst (λ t. MarksItem a.run.row a.run.item (Done (answer_with t frame result)) old.table mid.table) does
          (subst (λ (x : Run). MarksItem x.row x.item (Done (answer_with (task r.row.job r.run.item) frame result)) old.table mid.table) run r.marks);
      lends = subst (λ (x : Run). LendsItem x.row x.item None old.table mid.table) run r.lends;
    }

pub by_result : {X E : Type 0} (P : Bool → Type 0) (r : Result X E) → IfOk r (λ x. P false) → P true → P (is_err r)
by_result P (Ok x) ok err = ok
by_result P (Err e) ok err = err

module _ (key : Key) (laws : FinishLaws key) (old : Core) (starved : Bool) (keeps : Keeps key old starved) (w : ℕ) (lt : w < key.workers) (work : words.Work) (runs : RunsWork key (state_after key keeps.taken) w work) (answer : Answer)
    (ok : Answers key.graphs.graphs work answer) where
  abbrev a : Mine key (state_after key keeps.taken) old w work
  a = mine laws.held key laws.lawful starved old keeps w lt work runs

  abbrev next : List Step
  next = keeps.taken ++ steps.Finish w answer ∷ []

  in_workers : (v : ℕ) (r : Run) → get_or old.running.items v None ≡ Some r → v < key.workers
  in_workers v r is = let i = inside_of old.running.items v r is in let e = keeps.one_each in omega arith

  module _ (mid : Core) (marks : MarksItem a.run.row a.run.item (Done answer) old.table mid.table) (lends : LendsItem a.run.row a.run.item None old.table mid.table)
      (running_are : mid.running.items ≡ set old.running.items w None) (journal_is : HasFinish old.journal w mid.journal) where
    is_before : marks.before ≡ a.row
    is_before = the_same (row_at old.table a.run.row) marks.before a.row marks.here a.here

    was_busy : mark_at marks.before.job.marks a.run.item ≡ Busy
    was_busy = ap (λ (x : Row). mark_at x.job.marks a.run.item) is_before ∙ a.busy

    lasts : (v : ℕ) (r : Run) → v ≢ w → v < key.workers → get_or old.running.items v None ≡ Some r → (before : Row) → row_at old.table r.row ≡ Some before → mark_at before.job.marks r.item ≡ Busy → LastsAs before r.item mid.table r.row
    lasts v r other v_lt is before here busy = ⊎_elim
        (λ (e : r.row ≡ a.run.row).
        let apart : r.item ≢ a.run.item = λ f. others_apart laws.held key laws.lawful starved old keeps w v other work a v_lt r is e f in
        let same : marks.before ≡ before = the_same (row_at old.table a.run.row) marks.before before marks.here (ap (row_at old.table) (sym e) ∙ here) in
        let found : LastsAs marks.before r.item mid.table a.run.row = (
          marks.after,
          marks.now,
          marks.stays,
          marks.unmarked r.item apart ∙ (ap (λ (x : Row). mark_at x.job.marks r.item) same ∙ busy),
          λ i x was. ⊎_elim
              (λ (f : i ≡ a.run.item). absurd (let none : answers marks.before.job.marks i ≡ None = ap mark.answer_of (ap (mark_at marks.before.job.marks) f ∙ was_busy) in cc))
              (λ g. ap mark.answer_of (marks.unmarked i g) ∙ was)
              (cases_eq i a.run.item),
        ) in
        subst (λ (k : ℕ). LastsAs before r.item mid.table k) (sym e) (subst (λ (x : Row). LastsAs x r.item mid.table a.run.row) same found))
        (λ other_row. (before, marks.others r.row other_row other_row ∙ here, stays_same before, busy, λ i x was. was))
        (cases_eq r.row a.run.row)

    lends_so : (v : ℕ) (r : Run) → v ≢ w → get_or old.running.items v None ≡ Some r → lent_in mid.table r.row r.item ≡ lent_in old.table r.row r.item
    lends_so v r other is = ⊎_elim
        (λ (e : r.row ≡ a.run.row).
        let apart : r.item ≢ a.run.item = λ f. others_apart laws.held key laws.lawful starved old keeps w v other work a (in_workers v r is) r is e f in
        ap (λ (k : ℕ). lent_in mid.table k r.item) e ∙ (lends.in_job r.item apart ∙ ap (λ (k : ℕ). lent_in old.table k r.item) (sym e)))
        (λ other_row. lends.others r.row r.item other_row)
        (cases_eq r.row a.run.row)

    only : (k i : ℕ) (places : Places) → lent_in mid.table k i ≡ Some places → (lent_in old.table k i ≡ Some places) × ((k ≡ a.run.row) × (i ≡ a.run.item) → ⊥)
    only k i places is = ⊎_elim
        (λ (e : k ≡ a.run.row). ⊎_elim
        (λ (f : i ≡ a.run.item). absurd (let none : lent_in mid.table k i ≡ None = ap (λ (x : ℕ). lent_in mid.table x i) e ∙ (ap (lent_in mid.table a.run.row) f ∙ lends.here) in cc))
        (λ g. (ap (λ (x : ℕ). lent_in old.table x i) e ∙ (sym (lends.in_job i g) ∙ (ap (λ (x : ℕ). lent_in mid.table x i) (sym e) ∙ is)), λ p. g p.1))
        (cases_eq i a.run.item))
        (λ g. (sym (lends.others k i g) ∙ is, λ p. g p.0))
        (cases_eq k a.run.row)

    rows_mid : RowsLast old.table mid.table
    rows_mid = marks_rows a.run.row a.run.item (Done answer) old.table mid.table marks

    -- the board starved before
    pub starved_finishes : starved ≡ true → FinishesOn key old starved w mid starved
    starved_finishes is =
        let at = starves_next laws.held key laws.lawful starved old keeps w lt work a answer ok runs mid running_are journal_is lasts lends_so only laws.entered in
        record {
          finishes = finishes_by laws.held key laws.lawful starved old keeps w lt work a answer ok runs mid running_are journal_is lasts lends_so only laws.entered laws.one laws.tell starved;
          firings = firings_go_on old.table mid.table (last_go_on old.table mid.table rows_mid);
          keeps = keeps_by laws.held key laws.lawful starved old keeps w lt work a answer ok runs mid running_are journal_is lasts lends_so only starved (last_go_on old.table mid.table rows_mid) (subst (λ (b : Bool). StandsOrStarves b key next mid) (sym is) at);
          stays = λ e. e;
        }

    -- ---- jobs are closed

    module _ (new : Core) (kept : KeepsJournal mid new) where
      running_new : new.running.items ≡ set old.running.items w None
      running_new = ap (λ rs. rs.items) kept.running_is ∙ running_are

      journal_new : HasFinish old.journal w new.journal
      journal_new = subst (HasFinish old.journal w) (sym kept.journal_is) journal_is

      lasts_new : (v : ℕ) (r : Run) → v ≢ w → v < key.workers → get_or old.running.items v None ≡ Some r → (before : Row) → row_at old.table r.row ≡ Some before → mark_at before.job.marks r.item ≡ Busy → LastsAs before r.item new.table r.row
      lasts_new v r other v_lt is before here busy =
          let m = lasts v r other v_lt is before here busy in
          let n = kept.stay.busy r.row r.item m.0 m.1 m.3 in (
            n.0,
            n.1,
            record {
              place_is = n.2.place_is ∙ m.2.place_is;
              upper_is = n.2.upper_is ∙ m.2.upper_is;
              steps_are = n.2.steps_are ∙ m.2.steps_are;
              graphs_are = n.2.graphs_are ∙ m.2.graphs_are;
              workers_are = n.2.workers_are ∙ m.2.workers_are;
              firing_is = n.2.firing_is ∙ m.2.firing_is;
              cells_stay = λ cells is. n.2.cells_stay cells (m.2.cells_stay cells is);
            },
            n.3 r.item m.3,
            λ i x was. n.4 i x (m.4 i x was),
          )

      -- a row that is left lends what it lent
      lent_left : (k i : ℕ) (after : Row) → row_at new.table k ≡ Some after → lent_in new.table k i ≡ lent_in mid.table k i
      lent_left k i after now =
          let b = kept.stay.rows k after now in
          ap (λ o. lent_by o i) now ∙ (ap (λ l. lent_at l i) b.3 ∙ sym (ap (λ o. lent_by o i) b.1))

      lends_new : (v : ℕ) (r : Run) → v ≢ w → get_or old.running.items v None ≡ Some r → lent_in new.table r.row r.item ≡ lent_in old.table r.row r.item
      lends_new v r other is =
          let v_lt = in_workers v r is in
          let still = Rattle.firing_board.proofs.Leaving.stands_still laws.held key laws.lawful starved keeps.taken old keeps.at v v_lt in
          let here = subst (λ (h : Option (ℕ × ℕ)). Rattle.firing_board.specs.Starved.StillRuns key (state_after key keeps.taken) old.table ((state_after key keeps.taken).running v) h) (ap held_as is) still in
          let n = lasts_new v r other v_lt is here.row here.here here.busy in
          lent_left r.row r.item n.0 n.1 ∙ lends_so v r other is

      only_by : (k i : ℕ) (places : Places) (o : Option Row) → row_at new.table k ≡ o → lent_in new.table k i ≡ Some places → lent_in mid.table k i ≡ Some places
      only_by k i places None row is = absurd (let none : lent_in new.table k i ≡ None = ap (λ o. lent_by o i) row in cc)
      only_by k i places (Some after) row is = sym (lent_left k i after row) ∙ is

      only_new : (k i : ℕ) (places : Places) → lent_in new.table k i ≡ Some places → (lent_in old.table k i ≡ Some places) × ((k ≡ a.run.row) × (i ≡ a.run.item) → ⊥)
      only_new k i places is = only k i places (only_by k i places (row_at new.table k) refl is)

      pub rows_new : RowsGoOn old.table new.table
      rows_new = rows_close old.table mid.table new.table rows_mid kept.stay

      pub finishes_new : (after : Bool) → Finishes (view_with key old starved) (view_with key new after) w
      finishes_new after = finishes_by laws.held key laws.lawful starved old keeps w lt work a answer ok runs new running_new journal_new lasts_new lends_new only_new laws.entered laws.one laws.tell after

      pub starves_new : StarvesAt key next new
      starves_new = starves_next laws.held key laws.lawful starved old keeps w lt work a answer ok runs new running_new journal_new lasts_new lends_new only_new laws.entered

      -- memory was wanted
      pub wanted_finishes : starved ≡ false → FinishesOn key old starved w new true
      wanted_finishes is = record {
        finishes = finishes_new true;
        firings = firings_go_on old.table new.table rows_new;
        keeps = keeps_by laws.held key laws.lawful starved old keeps w lt work a answer ok runs new running_new journal_new lasts_new lends_new only_new true rows_new
            (starves_next laws.held key laws.lawful starved old keeps w lt work a answer ok runs new running_new journal_new lasts_new lends_new only_new laws.entered);
        stays = λ e. refl;
      }

module _ (key : Key) (laws : FinishLaws key) (old : Core) (keeps : Keeps key old false) (w : ℕ) (lt : w < key.workers) (work : words.Work) (runs : RunsWork key (state_after key keeps.taken) w work) (answer : Answer)
    (ok : Answers key.graphs.graphs work answer) where
  abbrev b : Mine key (state_after key keeps.taken) old w work
  b = mine laws.held key laws.lawful false old keeps w lt work runs

  abbrev then : List Step
  then = keeps.taken ++ steps.Finish w answer ∷ []

  module _ (mid : Core) (marks : MarksItem b.run.row b.run.item (Done answer) old.table mid.table) (lends : LendsItem b.run.row b.run.item None old.table mid.table)
      (running_are : mid.running.items ≡ set old.running.items w None) (journal_is : HasFinish old.journal w mid.journal) where
    before_is : marks.before ≡ b.row
    before_is = the_same (row_at old.table b.run.row) marks.before b.row marks.here b.here

    pub closing_from : IsClosingFrom mid.table b.run.row
    closing_from =
        let s = keeps.at in
        let m = (state_after key keeps.taken).marks in
        let has = task_by key m old.table b.run.row b.run.item b.row (Some (Work work)) s.suits b.here b.task_is in
        let k = laws.begin key keeps.taken (table_of old.table) (held_of old.running.items) w b.run.row b.run.item (job_row b.row) work answer keeps.is_key s.kept lt (ap held_as b.runs) (in_table old.table b.run.row b.row b.here) has ok in
        let table : table_of mid.table ≡ put_row (table_of old.table) b.run.row (Some (with_mark (job_row b.row) b.run.item (Done answer))) =
        laws.marks b.run.row b.run.item (Done answer) old.table mid.table marks ∙ ap (λ (r : Row). put_row (table_of old.table) b.run.row (Some (with_mark (job_row r) b.run.item (Done answer)))) before_is in
        let place : b.row.place ≡ marks.after.place = ap (λ (r : Row). r.place) (sym before_is) ∙ sym marks.stays.place_is in
        let moved = subst (λ (v : OpenJobs). IsClosing key keeps.taken (held_of old.running.items) w answer v (put m (b.run.item ∷ b.row.place) (Done answer)) b.row.place) (sym table) k in
        let suit = laws.suit key m b.run.row b.run.item answer old.table mid.table marks (ap (λ (r : Row). mark_at r.job.marks b.run.item) before_is ∙ b.busy) s.suits in
        record {
          key = key;
          taken = keeps.taken;
          held = held_of old.running.items;
          worker = w;
          answer = answer;
          marks = put m (b.run.item ∷ b.row.place) (Done answer);
          row = marks.after;
          here = marks.now;
          closing = subst (λ (p : Place). IsClosing key keeps.taken (held_of old.running.items) w answer (table_of mid.table) (put m (b.run.item ∷ b.row.place) (Done answer)) p) place moved;
          suits = subst (λ (p : Place). Rattle.firing_board.specs.Table.Suits.Suits key (put m (b.run.item ∷ p) (Done answer)) mid.table) (ap (λ (r : Row). r.place) before_is) suit;
        }

    module _ (new : Core) (kept : KeepsJournal mid new) (numbers_are : mid.numbers ≡ old.numbers) (closes : ClosesOn mid b.run.row new) where
      held_new : held_of new.running.items ≡ hold (held_of old.running.items) w None
      held_new = ap held_of (ap (λ rs. rs.items) kept.running_is ∙ running_are) ∙ held_set old.running.items w None (inside_of old.running.items w b.run b.runs)

      kept_by : (end : Option (Result JobGiven Refusal)) → ClosesTo closing_from new.table end → KeptAs key then (table_of new.table) (hold (held_of old.running.items) w None)
      unfolding closing_from
      kept_by None c = c
      kept_by (Some end) c = c.kept

      numbered : AreNumbered new.table new.numbers.items new.journal.paths
      numbered = λ k after now.
          let m = kept.stay.rows k after now in
          let h : (before : Row) × (row_at old.table k ≡ Some before) × (m.0.job.firing ≡ before.job.firing) = ⊎_elim
          (λ (e : k ≡ b.run.row).
          let is : marks.after ≡ m.0 = the_same (row_at mid.table b.run.row) marks.after m.0 marks.now (ap (row_at mid.table) (sym e) ∙ m.1) in
          (marks.before, ap (row_at old.table) e ∙ marks.here, ap (λ (r : Row). r.job.firing) (sym is) ∙ marks.stays.firing_is))
          (λ apart. (m.0, sym (marks.others k apart apart) ∙ m.1, refl))
          (cases_eq k b.run.row) in
          let was = keeps.at.numbered k h.0 h.1 in
          let firing = m.2.firing_is ∙ h.2 in
          let mine_so : IsNumbered old.numbers.items old.journal.paths k after.job.firing.path = record { known = was.known; path_is = was.path_is ∙ ap (λ (f : Firing). f.path) (sym firing) } in
          let paths : old.journal.paths ≡ new.journal.paths = sym (ap (λ (j : Rattle.board_journal.specs.View.JournalView). j.paths) kept.journal_is ∙ journal_is.paths_are) in
          let nums : old.numbers.items ≡ new.numbers.items = ap (λ ns. ns.items) (sym (kept.numbers_are ∙ numbers_are)) in
          subst (λ ns. IsNumbered ns new.journal.paths k after.job.firing.path) nums (subst (λ ps. IsNumbered old.numbers.items ps k after.job.firing.path) paths mine_so)

      has_end : (end : Option (Result JobGiven Refusal)) → Closes mid.table b.run.row new.table end → new.end ≡ latest end mid.end → HasEnd ((state_after key then).marks []) new.end
      unfolding closing_from
      has_end None c is = λ x done. let top = c.top closing_from refl in absurd (not_both ((state_after key then).marks []) top.0 x top.1 done)
      has_end (Some end) c is = λ x done. subst (IsEndFor x) (sym is) (one_answer ((state_after key then).marks []) x (answer_of (end_of end)) done (c.closed closing_from).done)

      pub closes_finishes : FinishesOn key old false w new false
      unfolding closing_from
      closes_finishes =
          let starves = wanted_finishes key laws old false keeps w lt work runs answer ok mid marks lends running_are journal_is new kept refl in
          let c = closes.closes in
          record {
            finishes = finishes_new key laws old false keeps w lt work runs answer ok mid marks lends running_are journal_is new kept false;
            firings = starves.firings;
            keeps = record {
              is_key = starves.keeps.is_key;
              one_each = starves.keeps.one_each;
              lent = starves.keeps.lent;
              owners = starves.keeps.owners;
              room = starves.keeps.room;
              taken = then;
              at = record {
                kept = subst (λ (h : Held). KeptAs key then (table_of new.table) h) (sym held_new) (kept_by closes.end (c.closed closing_from));
                suits = c.suits closing_from;
                entered = (starves_new key laws old false keeps w lt work runs answer ok mid marks lends running_are journal_is new kept).entered;
                numbered = numbered;
                has_end = has_end closes.end c closes.end_is;
              };
            };
            stays = λ e. e;
          }
