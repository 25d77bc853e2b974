-- A worker gives back what it runs.
use Rattle.std.proofs.Common.{◌≡◌, ◌≢◌, ⊎_elim, ℕ, zero, suc, ◌<◌, Bool, true, false, List, [], ◌∷◌, ◌++◌, length, set, get_or, length-set, Option, Some, None, refl, sym, ap, ◌∙◌, subst, arith}
use Rattle.std.proofs.lemmas.Bool.{cases_eq}
use Rattle.std.proofs.lemmas.List.{get_or-set_same, get_or-set_other}
use Rattle.kernel_gate.specs.Value.{Places}
use Rattle.job_preparing.specs.Handing.{answers, mark_at}
use Rattle.job_rules.specs.Doing.{Answers}
use Rattle.job_rules.specs.Items.{rule}
use Rattle.job_rules.specs.Meant.{rank}
use Rattle.job_rules.specs.Words as words
use Rattle.job_rules.specs.Words.{Answer}
use Rattle.nested_jobs.specs.Journals as steps
use Rattle.nested_jobs.specs.Journals.{after, assign, start, task_of}
use Rattle.nested_jobs.specs.Invariants as kept
use Rattle.nested_jobs.specs.Marks.{Busy}
use Rattle.nested_jobs.specs.Meanings.{Lawful}
use Rattle.nested_jobs.specs.Rules.{Place, Task, Work}
use Rattle.nested_jobs.proofs.Appending.{legal-snoc, state-snoc}
use Rattle.nested_jobs.proofs.OneStep.{task_stays}
use Rattle.nested_jobs.proofs.Running.{assign_at, journal_keeps}
use Rattle.graph_firing.specs.View.{answered, task}
use Rattle.pisdf_model.specs.declared.graph.Graphs.{Graphs}
use Rattle.board_rules.specs.BoardLaws.{FinishesAreEntered, HeldAreBusy}
use Rattle.board_rules.specs.Entries.{BoardState, Step}
use Rattle.board_rules.specs.Keys.{Key, rules, top_job}
use Rattle.board_rules.specs.Laws.{JournalsTellSteps, WorkHasOneAnswer}
use Rattle.board_rules.specs.Legal.{AreLegal, ArePickedFrom, IsPicked, journal_of, state_after}
use Rattle.board_rules.specs.declared.entry.Entry.TheVariants as entry
use Rattle.board_rules.specs.declared.entry.Entry.{Entry}
use Rattle.firing_board.specs.Table.Calls.{StaysAs}
use Rattle.firing_board.specs.Table.View.{TableView, firings_of, lent_in, row_at}
use Rattle.firing_board.specs.declared.table.row.Row.{Row}
use Rattle.firing_board.specs.Core.{IsLentToRunners, RowsGoOn, held_of, lent_of, lent_with, runners}
use Rattle.firing_board.specs.Finishes.{Finishes}
use Rattle.firing_board.specs.Invariants.{Keeps, StandsOrStarves, view_with}
use Rattle.firing_board.specs.Returning.{HasFinish}
use Rattle.firing_board.specs.Runs.{RunsWork}
use Rattle.firing_board.specs.Starved.{IsStillRun, Lasts, StarvesAt, StillRuns}
use Rattle.firing_board.specs.View.{IsAt}
use Rattle.firing_board.specs.declared.state.Core.{Core}
use Rattle.firing_board.specs.declared.run.Run.{Run}
use Rattle.firing_board.proofs.Fields.{entered_by, legal_by, same_steps}
use Rattle.firing_board.proofs.Found.{task_in}
use Rattle.firing_board.proofs.Handed.{run_of}
use Rattle.firing_board.proofs.Rows.{lasts_refl, owners_stay, the_same}
use Rattle.firing_board.proofs.Runners.{held_as, inside_of, lent_set, runners_less}
use Rattle.firing_board.proofs.Starving.{still_runs}

-- what is lent to a worker
pub lent_at_worker : (table : TableView) (running : List (Option Run)) (w : ℕ) → get_or (lent_of table running) w None ≡ lent_with table (get_or running w None)
lent_at_worker table [] w = refl
lent_at_worker table (r ∷ running) zero = refl
lent_at_worker table (r ∷ running) (suc w) = lent_at_worker table running w

picked_snoc : (key : Key) (s : BoardState) (es : List Step) (e : Step) → ArePickedFrom key s es → IsPicked key (steps.state_from (rules key) s es) e → ArePickedFrom key s (es ++ e ∷ [])
picked_snoc key s [] e picked one = (one, tt)
picked_snoc key s (x ∷ es) e picked one = (picked.0, picked_snoc key (after (rules key) s x) es e picked.1 one)

-- what a worker runs, as the rows have it
pub record Mine (key : Key) (s : BoardState) (c : Core) (w : ℕ) (work : words.Work) : Type 0 where
  pub run : Run
  pub runs : get_or c.running.items w None ≡ Some run
  pub row : Row
  pub here : row_at c.table run.row ≡ Some row
  pub graphs_are : row.job.graphs ≡ key.graphs
  pub workers_are : row.job.workers ≡ key.workers
  pub busy : mark_at row.job.marks run.item ≡ Busy
  pub task_is : task row.job run.item ≡ Some (Work work)
  pub running_so : s.running w ≡ Some (run.item ∷ row.place)

same_work : (o : Option (Task Rattle.pisdf_meaning.specs.declared.firing.Firing.Firing words.Work)) (a b : words.Work) → o ≡ Some (Work a) → o ≡ Some (Work b) → a ≡ b
same_work o a b one two = cc

mine_by : (key : Key) (s : BoardState) (c : Core) (w : ℕ) (work : words.Work) (o : Option Run) → get_or c.running.items w None ≡ o → RunsWork key s w work → StillRuns key s c.table (s.running w) (held_as o) → Mine key s c w work
mine_by key s c w work None is runs still = absurd (let some = runs.runs in cc)
mine_by key s c w work (Some run) is runs still =
    let place : runs.place ≡ run.item ∷ still.row.place = the_same (s.running w) runs.place (run.item ∷ still.row.place) runs.runs still.place_is in
    let there : task_of (rules key) s.marks (run.item ∷ still.row.place) ≡ Some (Work work) = ap (task_of (rules key) s.marks) (sym place) ∙ runs.task in
    let same : still.work ≡ work = same_work (task_of (rules key) s.marks (run.item ∷ still.row.place)) still.work work still.same there in
    record {
      run = run;
      runs = is;
      row = still.row;
      here = still.here;
      graphs_are = still.graphs_are;
      workers_are = still.workers_are;
      busy = still.busy;
      task_is = still.task_is ∙ ap (λ (x : words.Work). Some (Work x)) same;
      running_so = still.place_is;
    }

module _ (held_busy : HeldAreBusy) (key : Key) (lawful : Lawful (rules key) (rank key.graphs.graphs)) where
  pub stands_still : (starved : Bool) (taken : List Step) (c : Core) → StandsOrStarves starved key taken c → (v : ℕ) → v < key.workers → StillRuns key (state_after key taken) c.table ((state_after key taken).running v) (held_of c.running.items v)
  stands_still false taken c at v lt = still_runs held_busy key lawful taken c at c.table (lasts_refl c.table) v lt (held_of c.running.items v) refl
  stands_still true taken c at v lt = at.runs v lt

  -- where rows last, what runs can still be finished
  pub still_lasts : (s : BoardState) (old new : TableView) → Lasts old new → (r : Option Place) (h : Option (ℕ × ℕ)) → StillRuns key s old r h → StillRuns key s new r h
  still_lasts s old new lasts r None still = still
  still_lasts s old new lasts r (Some h) still =
      let last = lasts.rows h.0 h.1 still.row still.here still.busy in
      moved_still s old new r h still last.0 last.1 last.2.stays (last.2.busy h.1 still.busy) last.2.answered
    where
      moved_still : (s : BoardState) (old new : TableView) (r : Option Place) (h : ℕ × ℕ) (still : IsStillRun key s old r h.0 h.1) (row : Row) → row_at new h.0 ≡ Some row → StaysAs still.row row → mark_at row.job.marks h.1 ≡ Busy
          → Rattle.nested_jobs.specs.Meanings.Within (answers still.row.job.marks) (answers row.job.marks) → IsStillRun key s new r h.0 h.1
      moved_still s old new r h still row here stays busy within =
          let has : rule key.graphs.graphs still.row.job.firing (answered still.row.job) h.1 ≡ Some (Work still.work) = subst (λ (g : Graphs). rule g.graphs still.row.job.firing (answered still.row.job) h.1 ≡ Some (Work still.work)) still.graphs_are still.task_is in
          let grown = lawful.grows still.row.job.firing (answered still.row.job) (answered row.job) within h.1 (Work still.work) has in
          let graphs = stays.graphs_are ∙ still.graphs_are in
          let moved : rule key.graphs.graphs row.job.firing (answered row.job) h.1 ≡ Some (Work still.work) = subst (λ f. rule key.graphs.graphs f (answered row.job) h.1 ≡ Some (Work still.work)) (sym stays.firing_is) grown in
          record {
            row = row;
            here = here;
            graphs_are = graphs;
            workers_are = stays.workers_are ∙ still.workers_are;
            busy = busy;
            work = still.work;
            task_is = task_in key new row h.1 (Some (Work still.work)) graphs moved;
            place_is = still.place_is ∙ ap (λ (p : Place). Some (h.1 ∷ p)) (sym stays.place_is);
            same = subst (λ (p : Place). task_of (rules key) s.marks (h.1 ∷ p) ≡ Some (Work still.work)) (sym stays.place_is) still.same;
          }

  module _ (starved : Bool) (old : Core) (keeps : Keeps key old starved) where
    abbrev taken : List Step
    taken = keeps.taken

    abbrev s : BoardState
    s = state_after key taken

    legal : AreLegal key taken
    legal = legal_by starved key taken old keeps.at

    pub mine : (w : ℕ) → w < key.workers → (work : words.Work) → RunsWork key s w work → Mine key s old w work
    mine w lt work runs = mine_by key s old w work (get_or old.running.items w None) refl runs (stands_still starved taken old keeps.at w lt)

    -- no other runs the same
    pub others_apart : (w v : ℕ) → v ≢ w → (work : words.Work) → (a : Mine key s old w work) → v < key.workers → (r : Run) → get_or old.running.items v None ≡ Some r → (r.row ≡ a.run.row) → (r.item ≡ a.run.item) → ⊥
    others_apart w v apart work a lt r is same_row same_item =
        let k : kept.Keeps (rules key) (top_job key) key.workers s = journal_keeps (rules key) (rank key.graphs.graphs) lawful (top_job key) key.workers (Answers key.graphs.graphs) taken legal.allowed in
        let still = subst (λ (h : Option (ℕ × ℕ)). StillRuns key s old.table (s.running v) h) (ap held_as is) (stands_still starved taken old keeps.at v lt) in
        let row : still.row ≡ a.row = the_same (row_at old.table a.run.row) still.row a.row (ap (row_at old.table) (sym same_row) ∙ still.here) a.here in
        let at : s.running v ≡ Some (a.run.item ∷ a.row.place) = still.place_is ∙ (ap (λ (i : ℕ). Some (i ∷ still.row.place)) same_item ∙ ap (λ (x : Row). Some (a.run.item ∷ x.place)) row) in
        apart (k.by_one v w (a.run.item ∷ a.row.place) at a.running_so)

    module _ (w : ℕ) (lt : w < key.workers) (work : words.Work) (a : Mine key s old w work) (answer : Answer) (ok : Answers key.graphs.graphs work answer) (runs : RunsWork key s w work) where
      abbrev step : Step
      step = steps.Finish w answer

      abbrev next : List Step
      next = taken ++ step ∷ []

      pub allowed : steps.Allowed (rules key) (Answers key.graphs.graphs) key.workers s step
      allowed = record { is_worker = lt; place = runs.place; runs = runs.runs; work = work; is_work = runs.task; answered = ok }

      pub legal_next : AreLegal key next
      legal_next = record {
        allowed = legal-snoc (rules key) (Answers key.graphs.graphs) key.workers (start (top_job key)) taken step legal.allowed allowed;
        picked = picked_snoc key (start (top_job key)) taken step legal.picked tt;
      }

      state_next : state_after key next ≡ after (rules key) s step
      state_next = state-snoc (rules key) (start (top_job key)) taken step

      running_next : (v : ℕ) → (state_after key next).running v ≡ assign s.running w None v
      running_next v =
          let ended : after (rules key) s step ≡ steps.finish_of (rules key) s w answer (Some runs.place) = ap (steps.finish_of (rules key) s w answer) runs.runs in
          ap (λ (x : BoardState). x.running v) (state_next ∙ ended)

      others_run : (v : ℕ) → v ≢ w → (state_after key next).running v ≡ s.running v
      others_run v other = running_next v ∙ ⊎_elim (λ x. absurd (other (sym x.0))) (λ x. x.1) (assign_at s.running w None v)

      none_runs : (state_after key next).running w ≡ None
      none_runs = running_next w ∙ ⊎_elim (λ x. x.1) (λ x. absurd (x.0 refl)) (assign_at s.running w None w)

      -- the item is marked, or all is as before, and the worker leaves
      module _ (new : Core) (running_are : new.running.items ≡ set old.running.items w None) (journal_is : HasFinish old.journal w new.journal) (lasts : (v : ℕ) (r : Run) → v ≢ w → v < key.workers → get_or old.running.items v None ≡ Some r → (before : Row) → row_at old.table r.row ≡ Some before → mark_at before.job.marks r.item ≡ Busy
          → (row : Row) × (row_at new.table r.row ≡ Some row) × StaysAs before row × (mark_at row.job.marks r.item ≡ Busy) × Rattle.nested_jobs.specs.Meanings.Within (answers before.job.marks) (answers row.job.marks))
          (lends : (v : ℕ) (r : Run) → v ≢ w → get_or old.running.items v None ≡ Some r → lent_in new.table r.row r.item ≡ lent_in old.table r.row r.item)
          (only : (k i : ℕ) (places : Places) → lent_in new.table k i ≡ Some places → (lent_in old.table k i ≡ Some places) × ((k ≡ a.run.row) × (i ≡ a.run.item) → ⊥)) where
        inside : w < length old.running.items
        inside = inside_of old.running.items w a.run a.runs

        held_w : get_or new.running.items w None ≡ None
        held_w = ap (λ (rs : List (Option Run)). get_or rs w None) running_are ∙ get_or-set_same old.running.items w None None inside

        held_other : (v : ℕ) → v ≢ w → get_or new.running.items v None ≡ get_or old.running.items v None
        held_other v other = ap (λ (rs : List (Option Run)). get_or rs v None) running_are ∙ get_or-set_other old.running.items w v None None other

        other_still : (v : ℕ) → v ≢ w → v < key.workers → (o : Option Run) → get_or old.running.items v None ≡ o → StillRuns key (state_after key next) new.table ((state_after key next).running v) (held_as o)
        other_still v other v_lt None is =
            others_run v other ∙ subst (λ (h : Option (ℕ × ℕ)). StillRuns key s old.table (s.running v) h) (ap held_as is) (stands_still starved taken old keeps.at v v_lt)
        other_still v other v_lt (Some r) is =
            let still = subst (λ (h : Option (ℕ × ℕ)). StillRuns key s old.table (s.running v) h) (ap held_as is) (stands_still starved taken old keeps.at v v_lt) in
            let last = lasts v r other v_lt is still.row still.here still.busy in
            let runs_v : (state_after key next).running v ≡ Some (r.item ∷ still.row.place) = others_run v other ∙ still.place_is in
            let k : kept.Keeps (rules key) (top_job key) key.workers s = journal_keeps (rules key) (rank key.graphs.graphs) lawful (top_job key) key.workers (Answers key.graphs.graphs) taken legal.allowed in
            let here : (after (rules key) s step).running v ≡ Some (r.item ∷ still.row.place) = ap (λ (x : BoardState). x.running v) (sym state_next) ∙ runs_v in
            let stays : task_of (rules key) (after (rules key) s step).marks (r.item ∷ still.row.place) ≡ Some (Work still.work) =
            task_stays (rules key) (rank key.graphs.graphs) lawful (top_job key) key.workers (Answers key.graphs.graphs) s step v (r.item ∷ still.row.place) (Work still.work) k allowed still.place_is here still.same in
            let there : task_of (rules key) (state_after key next).marks (r.item ∷ still.row.place) ≡ Some (Work still.work) = ap (λ (x : BoardState). task_of (rules key) x.marks (r.item ∷ still.row.place)) state_next ∙ stays in
            let has : rule key.graphs.graphs still.row.job.firing (answered still.row.job) r.item ≡ Some (Work still.work) = subst (λ (g : Graphs). rule g.graphs still.row.job.firing (answered still.row.job) r.item ≡ Some (Work still.work)) still.graphs_are still.task_is in
            let grown = lawful.grows still.row.job.firing (answered still.row.job) (answered last.0.job) last.4 r.item (Work still.work) has in
            let moved : rule key.graphs.graphs last.0.job.firing (answered last.0.job) r.item ≡ Some (Work still.work) = subst (λ f. rule key.graphs.graphs f (answered last.0.job) r.item ≡ Some (Work still.work)) (sym last.2.firing_is) grown in
            let graphs = last.2.graphs_are ∙ still.graphs_are in
            record {
              row = last.0;
              here = last.1;
              graphs_are = graphs;
              workers_are = last.2.workers_are ∙ still.workers_are;
              busy = last.3;
              work = still.work;
              task_is = task_in key new.table last.0 r.item (Some (Work still.work)) graphs moved;
              place_is = runs_v ∙ ap (λ (p : Place). Some (r.item ∷ p)) (sym last.2.place_is);
              same = subst (λ (p : Place). task_of (rules key) (state_after key next).marks (r.item ∷ p) ≡ Some (Work still.work)) (sym last.2.place_is) there;
            }

        all_still : (v : ℕ) → v < key.workers → StillRuns key (state_after key next) new.table ((state_after key next).running v) (held_of new.running.items v)
        all_still v v_lt = ⊎_elim
            (λ (e : v ≡ w).
            let none : StillRuns key (state_after key next) new.table ((state_after key next).running v) None = ap (state_after key next).running e ∙ none_runs in
            subst (λ (h : Option (ℕ × ℕ)). StillRuns key (state_after key next) new.table ((state_after key next).running v) h) (sym (ap held_as (ap (λ (x : ℕ). get_or new.running.items x None) e ∙ held_w))) none)
            (λ other. subst (λ (h : Option (ℕ × ℕ)). StillRuns key (state_after key next) new.table ((state_after key next).running v) h) (sym (ap held_as (held_other v other))) (other_still v other v_lt (get_or old.running.items v None) refl))
            (cases_eq v w)

        entered_next : FinishesAreEntered → new.journal.entries ≡ journal_of key next
        entered_next law =
            journal_is.entries_are ∙ (ap (λ (es : List Entry). es ++ entry.Finish w ∷ []) (entered_by starved key taken old keeps.at) ∙ sym (law key taken w answer))

        pub starves_next : FinishesAreEntered → StarvesAt key next new
        starves_next law = record { legal = legal_next; entered = entered_next law; runs = all_still }

        lent_next : lent_of new.table new.running.items ≡ set (lent_of old.table old.running.items) w None
        lent_next = ap (lent_of new.table) running_are ∙ lent_set old.table new.table old.running.items w None (λ v r other is. lends v r other is)

        to_runners : IsLentToRunners new.table new.running.items
        to_runners = λ k i places is.
            let o = only k i places is in
            let v = keeps.lent k i places o.0 in
            let r = run_of (get_or old.running.items v.0 None) k i v.1 in
            let other : v.0 ≢ w = λ e. (let same : r.0 ≡ a.run = the_same (get_or old.running.items w None) r.0 a.run (ap (λ (x : ℕ). get_or old.running.items x None) (sym e) ∙ r.1) a.runs in
            o.1 (sym r.2 ∙ ap (λ (x : Run). x.row) same, sym r.3 ∙ ap (λ (x : Run). x.item) same)) in
            (v.0, ap held_as (held_other v.0 other) ∙ v.1)

        pub keeps_by : (after : Bool) → RowsGoOn old.table new.table → StandsOrStarves after key next new → Keeps key new after
        keeps_by after rows at = record {
          is_key = keeps.is_key;
          one_each = ap (λ (rs : List (Option Run)). length rs) running_are ∙ (length-set old.running.items w None ∙ keeps.one_each);
          lent = to_runners;
          owners = owners_stay old.table new.table keeps.owners rows (λ k i p is. (only k i p is).0);
          room =
              let less = runners_less old.running.items w a.run a.runs in
              let now : runners new.running.items ≡ runners (set old.running.items w None) = ap runners running_are in
              let left = journal_is.room in
              let was = keeps.room in
              omega arith;
          taken = next;
          at = at;
        }

        pub finishes_by : FinishesAreEntered → WorkHasOneAnswer → JournalsTellSteps → (after : Bool) → Finishes (view_with key old starved) (view_with key new after) w
        finishes_by law one tell after = record {
          entered = λ others other_work other_answer at other_runs other_ok.
              let same = same_steps tell key old starved keeps others at in
              let runs' = subst (λ (x : List Step). RunsWork key (state_after key x) w other_work) same other_runs in
              let place : runs'.place ≡ runs.place = the_same (s.running w) runs'.place runs.place runs'.runs runs.runs in
              let work_is : other_work ≡ work = same_work (task_of (rules key) s.marks runs.place) other_work work (ap (task_of (rules key) s.marks) (sym place) ∙ runs'.task) runs.task in
              let answer_is : answer ≡ other_answer = one key.graphs work answer other_answer ok (subst (λ (x : words.Work). Answers key.graphs.graphs x other_answer) work_is other_ok) in
              let steps_are : next ≡ others ++ steps.Finish w other_answer ∷ [] = ap (λ (x : Answer). taken ++ steps.Finish w x ∷ []) answer_is ∙ ap (λ (x : List Step). x ++ steps.Finish w other_answer ∷ []) (sym same) in
              subst (IsAt (view_with key new after)) steps_are (record { legal = legal_next; entered = entered_next law });
          new_is = ap (λ (l : List (Option Places)). record { key = key; journal = new.journal.entries; starved = after; firings = firings_of new.table; lent = l; kept = false }) lent_next;
        }
