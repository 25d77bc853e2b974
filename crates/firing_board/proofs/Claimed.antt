-- A claim keeps what is kept of a board.
use Rattle.std.proofs.Common.{◌≡◌, ◌≢◌, ◌⊎◌, ⊎_elim, ℕ, ◌+◌, ◌-◌, ◌<◌, ◌≤◌, true, false, List, [], ◌∷◌, ◌++◌, length, set, get_or, length-set, Option, Some, None, refl, sym, ap, ◌∙◌, subst, arith}
use Rattle.std.proofs.lemmas.Bool.{cases_eq}
use Rattle.std.proofs.lemmas.List.{get_or-set_same, get_or-set_other}
use Rattle.kernel_gate.specs.Value.{Places}
use Rattle.one_job.specs.Leased.{OneOwnerEach}
use Rattle.job_preparing.specs.Handing.{mark_at}
use Rattle.job_rules.specs.Items.{graph_of, rule}
use Rattle.job_rules.specs.Words as words
use Rattle.job_rules.specs.Words.{Answer}
use Rattle.nested_jobs.specs.Journals as steps
use Rattle.nested_jobs.specs.Journals.{after, start, task_of}
use Rattle.nested_jobs.specs.Marks.{Busy, Free, Mark, Marks, answer_of, values}
use Rattle.nested_jobs.specs.Rules.{Place, Task, Values, Work}
use Rattle.nested_jobs.specs.Steps.{claimed, task_in}
use Rattle.nested_jobs.specs.Tables.{answers_in, put_row, with_mark}
use Rattle.nested_jobs.proofs.Appending.{state-snoc}
use Rattle.nested_jobs.proofs.Tabling.{put_row_at}
use Rattle.graph_firing.specs.View.{IsOfferedWork, graph_in}
use Rattle.pisdf_meaning.specs.declared.firing.Firing.{Firing}
use Rattle.pisdf_model.specs.declared.graph.Graphs.{Graphs}
use Rattle.board_rules.specs.Asking.{JobRow}
use Rattle.board_rules.specs.AskingLaws.{BoardsEnd}
use Rattle.board_rules.specs.Board.{Held, KeptAs, OpenJobs, RunsAs, hold}
use Rattle.board_rules.specs.BoardLaws.{ClaimsAreEntered, ClaimsKeep, HeldAreBusy}
use Rattle.board_rules.specs.Entries.{BoardState, Step, item_of}
use Rattle.board_rules.specs.Keys.{Key, rules, top_job}
use Rattle.board_rules.specs.Legal.{HasEnded, journal_of, state_after}
use Rattle.board_rules.specs.declared.entry.Entry.TheVariants as entry
use Rattle.board_rules.specs.declared.entry.Entry.{Entry}
use Rattle.board_rules.specs.declared.entry.ItemName.{ItemName}
use Rattle.firing_board.specs.Table.Calls.{LendsItem, MarksItem}
use Rattle.firing_board.specs.Table.Laws.{ClaimsSuit, TablesMark}
use Rattle.firing_board.specs.Table.Suits.{Suits}
use Rattle.firing_board.specs.Table.View.{job_row, lent_in, row_at, table_of}
use Rattle.firing_board.specs.declared.table.row.Row.{Row}
use Rattle.firing_board.specs.Core.{AreNumbered, HasEnd, IsLentToRunners, IsNumbered, RowsHaveOwners, StandsAt, held_of, lent_of}
use Rattle.firing_board.specs.Finding.{IsFound}
use Rattle.firing_board.specs.Handing.{path_in}
use Rattle.firing_board.specs.Invariants.{Keeps}
use Rattle.firing_board.specs.OnCore.{MayClaim}
use Rattle.firing_board.specs.Opening.{KeepsRuns}
use Rattle.firing_board.specs.Runs.{RunsWork}
use Rattle.firing_board.specs.declared.claim.Ticket.{Ticket}
use Rattle.firing_board.specs.declared.state.Core.{Core}
use Rattle.firing_board.specs.declared.run.Run.{Run}
use Rattle.firing_board.proofs.Openings.{task_by}
use Rattle.firing_board.proofs.Rows.{in_table, the_same}
use Rattle.firing_board.proofs.Runners.{held_as, held_set, lent_set}
use Rattle.firing_board.proofs.Took.{Took}

-- the laws that are used here
pub record ClaimLaws : Type 0 where
  pub claims : ClaimsKeep
  pub held : HeldAreBusy
  pub entered : ClaimsAreEntered
  pub ended : BoardsEnd
  pub suit : ClaimsSuit
  pub mark : TablesMark

-- two answers of a row agree where its marks do but for items that have none
same_answers : (row : JobRow) (item : ℕ) → row.marks item ≡ Free → answers_in (with_mark row item Busy) ≡ answers_in row
same_answers row item free =
    let at : (j : ℕ) → answers_in (with_mark row item Busy) j ≡ answers_in row j = λ j.
    elim (Rattle.std.proofs.Common.eqb item j) as (λ b. Rattle.std.proofs.Common.eqb item j ≡ b → answer_of (Rattle.std.proofs.Common.cond b Busy (row.marks j)) ≡ answer_of (row.marks j)) [
      | true ↦ λ e. sym (ap answer_of (ap row.marks (sym (Rattle.std.proofs.lemmas.Bool.eqb-true item j e)) ∙ free))
      | false ↦ λ e. refl
    ]
    refl in
    λ x j. at j x

-- the task of an item by the marks that a table stands for
pub task_stands : (key : Key) (m : Marks Firing Answer) (table : OpenJobs) (k item : ℕ) (row : JobRow) (t : Option (Task Firing words.Work)) → Rattle.nested_jobs.specs.Tables.StandsFor table m → table k ≡ Some row
    → rule key.graphs.graphs row.job (answers_in row) item ≡ t → task_of (rules key) m (item ∷ row.place) ≡ t
task_stands key m table k item row t stands here is =
    let r = stands.rows k row here in
    let at : (j : ℕ) → values m row.place j ≡ answers_in row j = λ j. ap answer_of (r.items j) in
    let same : values m row.place ≡ answers_in row = λ x j. at j x in
    ap (λ (mark : Mark Firing Answer). task_in (rules key) mark (values m row.place) item) r.is_open
    ∙ (ap (λ (v : Values Answer). rule key.graphs.graphs row.job v item) same ∙ is)

module _ (laws : ClaimLaws) (key : Key) (old : Core) (w : ℕ) (may : MayClaim key old w) where
  abbrev taken : List Step
  taken = may.keeps.taken

  abbrev s : StandsAt key taken old
  s = may.keeps.at

  abbrev m : Marks Firing Answer
  m = (state_after key taken).marks

  abbrev held : Held
  held = held_of old.running.items

  idle : held w ≡ None
  idle = ap held_as may.idle

  module _ (mid : Core) (run : Run) (found : IsFound key taken old w mid run) (kept : KeepsRuns old mid) where
    -- what others run isn't this item, which is free
    pub apart : (v : ℕ) (r : Run) → get_or old.running.items v None ≡ Some r → (r.row ≡ run.row) → (r.item ≡ run.item) → ⊥
    apart v r is same_row same_item = ⊎_elim
        (λ (v_in : v < key.workers).
        let k = s.kept.runs v v_in in
        let holds : held v ≡ Some (r.row, r.item) = ap held_as is in
        let runs = subst (λ (h : Option (ℕ × ℕ)). RunsAs (table_of old.table) ((state_after key taken).running v) h) holds k in
        let b = Rattle.firing_board.proofs.Found.row_behind (row_at old.table r.row) runs.0 runs.1 in
        let busy = (laws.held key taken (table_of old.table) held v r.row r.item runs.0 s.suits.is_key s.kept v_in holds runs.1).busy in
        let was : mark_at b.0.job.marks r.item ≡ Busy = subst (λ (x : JobRow). x.marks r.item ≡ Busy) b.2 busy in
        let last = kept.lasts.rows r.row r.item b.0 b.1 was in
        let at : last.0 ≡ found.row = the_same (row_at mid.table run.row) last.0 found.row (ap (row_at mid.table) (sym same_row) ∙ last.1) found.here in
        let now : mark_at found.row.job.marks run.item ≡ Busy = subst (λ (x : Row). mark_at x.job.marks run.item ≡ Busy) at (subst (λ (i : ℕ). mark_at last.0.job.marks i ≡ Busy) same_item (last.2.busy r.item was)) in
        let free = found.offered.free in
        absurd (cc))
        (λ (past : key.workers ≤ v).
        let e = may.keeps.one_each in
        let in_list = Rattle.firing_board.proofs.Runners.inside_of old.running.items v r is in
        absurd (omega arith))
        (Rattle.std.proofs.lemmas.Bool.cases_lt v key.workers)

    module _ (new : Core) (item : ItemName) (ticket : Ticket)
        (item_is : item ≡ item_of (graph_in found.row.job) run.item) (marks : MarksItem run.row run.item Busy mid.table new.table) (frame : Option Places) (lends : LendsItem run.row run.item frame mid.table new.table)
        (t : Took mid w run item ticket new) where
      abbrev place : Place
      place = run.item ∷ found.row.place

      abbrev next : List Step
      next = taken ++ steps.Claim w place ∷ []

      abbrev row : JobRow
      row = job_row found.row

      is_before : marks.before ≡ found.row
      is_before = the_same (row_at mid.table run.row) marks.before found.row marks.here found.here

      here : table_of mid.table run.row ≡ Some row
      here = in_table mid.table run.row found.row found.here

      has_work : rule key.graphs.graphs row.job (answers_in row) run.item ≡ Some (Work found.offered.work)
      has_work = task_by key found.marks mid.table run.row run.item found.row (Some (Work found.offered.work)) found.suits found.here found.offered.task_is

      table_is : table_of new.table ≡ put_row (table_of mid.table) run.row (Some (with_mark row run.item Busy))
      table_is = laws.mark run.row run.item Busy mid.table new.table marks ∙ ap (λ (r : Row). put_row (table_of mid.table) run.row (Some (with_mark (job_row r) run.item Busy))) is_before

      running_are : new.running.items ≡ set old.running.items w (Some run)
      running_are = t.running_are ∙ ap (λ rs. set rs.items w (Some run)) kept.running_is

      inside : w < length old.running.items
      inside = let e = may.keeps.one_each in let l = may.is_worker in omega arith

      held_is : held_of new.running.items ≡ hold held w (Some (run.row, run.item))
      held_is = ap held_of running_are ∙ held_set old.running.items w (Some run) inside

      pub kept_next : KeptAs key next (table_of new.table) (held_of new.running.items)
      kept_next =
          let k = laws.claims key taken (table_of old.table) held w run.row run.item row found.offered.work (table_of mid.table) found.marks s.suits.is_key s.kept may.is_worker idle found.picked found.opened here found.offered.free has_work in
          subst (λ (h : Held). KeptAs key next (table_of new.table) h) (sym held_is) (subst (λ (v : OpenJobs). KeptAs key next v (hold held w (Some (run.row, run.item)))) (sym table_is) k)

      state_next : state_after key next ≡ after (rules key) (state_after key taken) (steps.Claim w place)
      state_next = state-snoc (rules key) (start (top_job key)) taken (steps.Claim w place)

      pub suits_next : Suits key (state_after key next).marks new.table
      suits_next =
          let offered = subst (λ (r : Row). IsOfferedWork r.job run.item) (sym is_before) found.offered in
          let mine = laws.suit key found.marks run.row run.item mid.table new.table marks offered found.suits in
          let at : claimed (rules key) found.marks (run.item ∷ marks.before.place) ≡ (state_after key next).marks =
          ap (λ (r : Row). claimed (rules key) found.marks (run.item ∷ r.place)) is_before ∙ (sym found.opened.claims ∙ ap (λ (x : BoardState). x.marks) (sym state_next)) in
          subst (λ (n : Marks Firing Answer). Suits key n new.table) at mine

      pub entered_next : new.journal.entries ≡ journal_of key next
      entered_next =
          let numbered = found.numbered run.row found.row found.here in
          let graphs = (found.suits.rows run.row found.row found.here).graphs_are in
          let named : item ≡ item_of (graph_of key.graphs.graphs row.job) run.item = item_is ∙ ap (λ (g : Graphs). item_of (graph_of g.graphs row.job) run.item) graphs in
          let law = laws.entered key taken (table_of old.table) w run.row run.item row (table_of mid.table) found.marks s.suits.is_key found.opened here in
          t.entries_are ∙ (ap (λ (es : List Entry). es ++ entry.Claim w (path_in mid run.row) item ∷ []) (kept.entries_are ∙ s.entered)
          ∙ (ap (λ (p : List ℕ). journal_of key taken ++ entry.Claim w p item ∷ []) numbered.path_is ∙ (ap (λ (i : ItemName). journal_of key taken ++ entry.Claim w row.job.path i ∷ []) named ∙ sym law)))

      numbered_next : AreNumbered new.table new.numbers.items new.journal.paths
      numbered_next = λ k after now.
          let h : (before : Row) × (row_at mid.table k ≡ Some before) × (after.job.firing ≡ before.job.firing) = ⊎_elim
          (λ (e : k ≡ run.row).
          let is : marks.after ≡ after = the_same (row_at new.table run.row) marks.after after marks.now (ap (row_at new.table) (sym e) ∙ now) in
          (marks.before, ap (row_at mid.table) e ∙ marks.here, ap (λ (r : Row). r.job.firing) (sym is) ∙ marks.stays.firing_is))
          (λ apart. (after, sym (marks.others k apart apart) ∙ now, refl))
          (cases_eq k run.row) in
          let was = found.numbered k h.0 h.1 in
          let mine : IsNumbered mid.numbers.items mid.journal.paths k after.job.firing.path = record { known = was.known; path_is = was.path_is ∙ ap (λ (f : Firing). f.path) (sym h.2) } in
          subst (λ ns. IsNumbered ns new.journal.paths k after.job.firing.path) (sym t.numbers_are) (subst (λ ps. IsNumbered mid.numbers.items ps k after.job.firing.path) (sym t.paths_are) mine)

      held_w : held_of new.running.items w ≡ Some (run.row, run.item)
      held_w = ap (λ (rs : List (Option Run)). held_of rs w) running_are ∙ ap held_as (get_or-set_same old.running.items w (Some run) None inside)

      pub runs_next : (r : JobRow) × (table_of new.table run.row ≡ Some r) × ((state_after key next).running w ≡ Some (run.item ∷ r.place))
      runs_next = subst (λ (h : Option (ℕ × ℕ)). RunsAs (table_of new.table) ((state_after key next).running w) h) held_w (kept_next.runs w may.is_worker)

      end_next : HasEnd ((state_after key next).marks []) new.end
      end_next = λ answer is.
          let ended : HasEnded key next = (laws.ended key next s.suits.is_key kept_next.legal).1 (answer, is) in
          let none = ended.none_run w may.is_worker in
          let some = runs_next.2 in
          absurd (cc)

      pub stands_next : StandsAt key next new
      stands_next = record { kept = kept_next; suits = suits_next; entered = entered_next; numbered = numbered_next; has_end = end_next }

      -- ---- what is lent

      lent_for : (v : ℕ) (r : Run) → get_or old.running.items v None ≡ Some r → lent_in new.table r.row r.item ≡ lent_in old.table r.row r.item
      lent_for v r is = ⊎_elim
          (λ (e : r.row ≡ run.row). ⊎_elim
          (λ (f : r.item ≡ run.item). absurd (apart v r is e f))
          (λ other. ap (λ (k : ℕ). lent_in new.table k r.item) e ∙ (lends.in_job r.item other ∙ (kept.lent run.row r.item ∙ ap (λ (k : ℕ). lent_in old.table k r.item) (sym e))))
          (cases_eq r.item run.item))
          (λ other. lends.others r.row r.item other ∙ kept.lent r.row r.item)
          (cases_eq r.row run.row)

      pub lent_next : lent_of new.table new.running.items ≡ set (lent_of old.table old.running.items) w frame
      lent_next = ap (lent_of new.table) running_are
          ∙ (lent_set old.table new.table old.running.items w (Some run) (λ v r other is. lent_for v r is)
          ∙ ap (λ (p : Option Places). set (lent_of old.table old.running.items) w p) lends.here)

      held_other : (v : ℕ) → v ≢ w → held_of new.running.items v ≡ held v
      held_other v other = ap (λ (rs : List (Option Run)). held_of rs v) running_are ∙ ap held_as (get_or-set_other old.running.items w v (Some run) None other)

      to_runners : IsLentToRunners new.table new.running.items
      to_runners = λ k i places is.
          let from_old : lent_in mid.table k i ≡ Some places → (v : ℕ) × (held_of new.running.items v ≡ Some (k, i)) = λ was.
          let v = may.keeps.lent k i places (sym (kept.lent k i) ∙ was) in
          let other : v.0 ≢ w = λ e. (let none = idle in let some : held w ≡ Some (k, i) = ap held (sym e) ∙ v.1 in cc) in
          (v.0, held_other v.0 other ∙ v.1) in
          ⊎_elim
          (λ (e : k ≡ run.row). ⊎_elim
          (λ (f : i ≡ run.item). (w, held_w ∙ sym (ap (λ (x : ℕ). Some (x, i)) e ∙ ap (λ (x : ℕ). Some (run.row, x)) f)))
          (λ other. from_old (ap (λ (x : ℕ). lent_in mid.table x i) e ∙ (sym (lends.in_job i other) ∙ (ap (λ (x : ℕ). lent_in new.table x i) (sym e) ∙ is))))
          (cases_eq i run.item))
          (λ other. from_old (sym (lends.others k i other) ∙ is))
          (cases_eq k run.row)

      -- of the row's job no cell has two owners
      owners_next : OneOwnerEach (lent_in new.table run.row) → RowsHaveOwners new.table
      owners_next own = record {
        each = λ k. ⊎_elim
            (λ (e : k ≡ run.row). subst (λ (x : ℕ). OneOwnerEach (lent_in new.table x)) (sym e) own)
            (λ other. λ i j p q a b cell one two has again. may.keeps.owners.each k i j p q a b cell (was k i p other one) (was k j q other two) has again)
            (cases_eq k run.row);
        apart = λ k l i j p q one other lends_one lends_other here there same. kept_next.stands.apart k l (job_row one) (job_row other) (in_table new.table k one here) (in_table new.table l other there) same;
      }
        where
          was : (k i : ℕ) (p : Places) → (k ≡ run.row → ⊥) → lent_in new.table k i ≡ Some p → lent_in old.table k i ≡ Some p
          was k i p other is = sym (lends.others k i other ∙ kept.lent k i) ∙ is

      pub keeps_next : OneOwnerEach (lent_in new.table run.row) → Keeps key new false
      keeps_next own = record {
        is_key = may.keeps.is_key;
        one_each = ap (λ (rs : List (Option Run)). length rs) running_are ∙ (length-set old.running.items w (Some run) ∙ may.keeps.one_each);
        lent = to_runners;
        owners = owners_next own;
        room = let room = t.room.in_journal in omega (arith, room);
        taken = next;
        at = stands_next;
      }

      pub work_next : RunsWork key (state_after key next) w found.offered.work
      work_next =
          let r = runs_next in
          let now : table_of new.table run.row ≡ Some (with_mark row run.item Busy) = ap (λ (v : OpenJobs). v run.row) table_is ∙ ⊎_elim (λ x. x.1) (λ x. absurd (x.0 refl)) (put_row_at (table_of mid.table) run.row (Some (with_mark row run.item Busy)) run.row) in
          let is : r.0 ≡ with_mark row run.item Busy = the_same (table_of new.table run.row) r.0 (with_mark row run.item Busy) r.1 now in
          let place_is : r.0.place ≡ found.row.place = ap (λ (x : JobRow). x.place) is in
          record {
            place = place;
            runs = r.2 ∙ ap (λ (p : Place). Some (run.item ∷ p)) place_is;
            task = task_stands key (state_after key next).marks (table_of new.table) run.row run.item (with_mark row run.item Busy) (Some (Work found.offered.work)) kept_next.stands now
                (ap (λ (v : Values Answer). rule key.graphs.graphs row.job v run.item) (same_answers row run.item found.offered.free) ∙ has_work);
          }
