-- A worker finishes what it runs.
use Rattle.std.proofs.Common.{◌≡◌, ℕ, ◌<◌, ◌≤◌, List, [], ◌∷◌, ◌++◌, length, get_or, set, length-set, Option, Some, None, refl, sym, ap, ◌∙◌, subst, arith}
use Rattle.std.proofs.lemmas.List.{get_or-set_same}
use Rattle.kernel_gate.specs.Signed.{Counts}
use Rattle.job_rules.specs.Items.{rule}
use Rattle.job_rules.specs.Words as words
use Rattle.job_rules.specs.Words.{Answer}
use Rattle.nested_jobs.proofs.Tabling.{answers_are}
use Rattle.nested_jobs.specs.Journals as steps
use Rattle.nested_jobs.specs.Journals.{task_of}
use Rattle.nested_jobs.specs.Marks.{Busy, Done, Mark, Marks, values}
use Rattle.nested_jobs.specs.Rules.{Task, Values, Work}
use Rattle.nested_jobs.specs.Steps.{task_in}
use Rattle.nested_jobs.specs.Tables.{StandsFor, answers_in, put_row, with_mark}
use Rattle.pisdf_model.specs.declared.graph.Graphs.{Graphs}
use Rattle.pisdf_meaning.specs.declared.firing.Firing.{Firing}
use Rattle.board_rules.specs.Asking.{JobRow}
use Rattle.board_rules.specs.Board.{Held, IsClosing, KeptAs, OpenJobs, RunsAs, hold}
use Rattle.board_rules.specs.BoardLaws.{FinishesAreEntered, FinishesBegin, HeldAreBusy, IsHeld}
use Rattle.board_rules.specs.Entries.{Step}
use Rattle.board_rules.specs.Keys.{IsKey, Key, rules}
use Rattle.board_rules.specs.Legal.{state_after}
use Rattle.board_rules.specs.declared.entry.Entry.TheVariants.{Finish}
use Rattle.firing_board.specs.Runs.{RunsWork}
use Rattle.quiescent_driver.specs.Journals.{entry_line}
use Rattle.worker_crew.specs.Laws.{IsFitWork, WorkFits}
use Rattle.audit_job.specs.Answering.{FitsWork}
use Rattle.audit_job.specs.Jobs.{IsJob}
use Rattle.audit_job.specs.Marks.{answers, mark_at}
use Rattle.audit_job.specs.declared.answer.Answer.{Answer as Own}
use Rattle.journal_audit.specs.Closing.{ClosesFrom, ClosesTo, Finishing}
use Rattle.journal_audit.specs.Replays.{FinishesRun, HasEnd, Leaves, Makes, Replays, RunsIt}
use Rattle.journal_audit.specs.Slots.{FinishesRow}
use Rattle.journal_audit.specs.Standing.{AllJobs}
use Rattle.journal_audit.specs.Table.{held_as, held_of, job_row, row_at, table_of}
use Rattle.journal_audit.specs.declared.replay.Replay.{Replay}
use Rattle.journal_audit.specs.declared.table.Row.{Row}
use Rattle.journal_audit.specs.declared.table.Run.{Run}
use Rattle.journal_audit.proofs.Rows.{held_set, in_table, inside_of, jobs_set, marked_row, row_behind, table_set}

fits_so : (signatures : List Counts) (work : words.Work) → IsFitWork signatures work → FitsWork signatures work
fits_so signatures (words.Fires spot asked) h = h
fits_so signatures (words.Copies node read lens) h = h
fits_so signatures (words.Compiles firing left) h = h

-- the task of an item by the marks that a table stands for
task_stands : (key : Key) (m : Marks Firing Answer) (table : OpenJobs) (k item : ℕ) (row : JobRow) (t : Option (Task Firing words.Work)) → StandsFor table m → table k ≡ Some row
    → rule key.graphs.graphs row.job (answers_in row) item ≡ t → task_of (rules key) m (item ∷ row.place) ≡ t
task_stands key m table k item row t stands here is =
    let r = stands.rows k row here in
    ap (λ (mark : Mark Firing Answer). task_in (rules key) mark (values m row.place) item) r.is_open
    ∙ (ap (λ (v : Values Answer). rule key.graphs.graphs row.job v item) (answers_are table m stands k row here) ∙ is)

module _ (busy_held : HeldAreBusy) (fits : WorkFits) (graphs : Graphs) (signatures : List Counts) (workers : ℕ) (rows : List (Option Row)) (run : Run) (key : Key) (taken : List Step) (held : Held) (w : ℕ) (r : RunsIt graphs signatures workers rows run key taken held w) where
  abbrev k : ℕ
  k = run.row

  abbrev i : ℕ
  i = run.item

  abbrev is : IsKey key
  is = r.keeps.is_key

  pub runs : RunsAs (table_of rows) ((state_after key taken).running w) (Some (k, i))
  runs = subst (RunsAs (table_of rows) ((state_after key taken).running w)) r.runs (r.keeps.kept.runs w r.is_worker)

  pub behind : (row : Row) × (row_at rows k ≡ Some row) × (runs.0 ≡ job_row row)
  behind = row_behind (row_at rows k) runs.0 runs.1

  abbrev pub row : Row
  row = behind.0

  pub here : row_at rows k ≡ Some row
  here = behind.1

  pub inside : k < length rows
  inside = inside_of rows k row here

  in_rows : table_of rows k ≡ Some (job_row row)
  in_rows = in_table rows k row here

  running_so : (state_after key taken).running w ≡ Some (i ∷ row.place)
  running_so = runs.2 ∙ ap (λ (x : JobRow). Some (i ∷ x.place)) behind.2

  is_held : IsHeld key i (job_row row)
  is_held = busy_held key taken (table_of rows) held w k i (job_row row) is r.keeps.kept r.is_worker r.runs in_rows

  pub busy : mark_at row.job.marks.items i ≡ Busy
  busy = is_held.busy

  pub work_of : (work : words.Work) × (rule graphs.graphs row.job.firing (answers row.job.marks.items) i ≡ Some (Work work))
  work_of = (is_held.work, subst (λ (gs : Graphs). rule gs.graphs row.job.firing (answers row.job.marks.items) i ≡ Some (Work is_held.work)) r.keeps.graphs_are is_held.task)

  pub is_job : IsJob graphs.graphs workers row.job
  is_job = subst (λ (n : ℕ). IsJob graphs.graphs n row.job) (sym r.workers_are) (subst (λ (gs : Graphs). IsJob gs.graphs key.workers row.job) r.keeps.graphs_are (r.keeps.jobs k row here))

  pub some : 1 ≤ workers
  some = let e = r.workers_are in let s = is.some in omega arith

  pub fits_work : (work : words.Work) → rule graphs.graphs row.job.firing (answers row.job.marks.items) i ≡ Some (Work work) → FitsWork signatures work
  fits_work work task =
      let own : rule key.graphs.graphs row.job.firing (answers row.job.marks.items) i ≡ Some (Work work) = subst (λ (gs : Graphs). rule gs.graphs row.job.firing (answers row.job.marks.items) i ≡ Some (Work work)) (sym r.keeps.graphs_are) task in
      let it : RunsWork key (state_after key taken) w work = record { place = i ∷ row.place; runs = running_so; task = task_stands key (state_after key taken).marks (table_of rows) k i (job_row row) (Some (Work work)) r.keeps.kept.stands in_rows own } in
      subst (λ (s : List Counts). FitsWork s work) r.signatures_are (fits_so key.signatures work (fits key taken w work is r.keeps.kept.legal it))

  -- the item is finished
  module _ (begin : FinishesBegin) (slot : Option Row) (f : FinishesRow graphs.graphs workers i row slot) where
    abbrev answer : Answer
    answer = f.finishes.answer

    abbrev pub finishing : Finishing
    finishing = record { key = key; taken = taken; held = held; worker = w; answer = f.finishes.answer }

    abbrev mid : List (Option Row)
    mid = set rows k slot

    mid_is : mid ≡ set rows k (Some f.after)
    mid_is = ap (set rows k) f.is

    row_is : job_row f.after ≡ with_mark (job_row row) i (Done answer)
    row_is = marked_row row f.after i (Done answer) f.place_is f.finishes.firing_is f.finishes.marked

    table_is : table_of mid ≡ put_row (table_of rows) k (Some (with_mark (job_row row) i (Done answer)))
    table_is = ap table_of mid_is ∙ (table_set rows k (Some f.after) inside ∙ ap (λ (x : JobRow). put_row (table_of rows) k (Some x)) row_is)

    pub closes_from : ClosesFrom graphs mid k finishing
    closes_from =
        let a = f.finishes.answered in
        let own : rule key.graphs.graphs row.job.firing (answers row.job.marks.items) i ≡ Some (Work a.work) = subst (λ (gs : Graphs). rule gs.graphs row.job.firing (answers row.job.marks.items) i ≡ Some (Work a.work)) (sym r.keeps.graphs_are) a.task_is in
        let marks : Marks Firing Answer = Rattle.nested_jobs.specs.Marks.put (state_after key taken).marks (i ∷ row.place) (Done answer) in
        let closing = begin key taken (table_of rows) held w k i (job_row row) a.work answer is r.keeps.kept r.is_worker r.runs in_rows own (subst (λ (gs : Graphs). Rattle.job_rules.specs.Doing.Answers gs.graphs a.work answer) (sym r.keeps.graphs_are) a.answered) in
        let place : row.place ≡ f.after.place = sym f.place_is in
        record {
          is_key = is;
          graphs_are = r.keeps.graphs_are;
          marks = marks;
          row = f.after;
          here = ap (λ (rs : List (Option Row)). row_at rs k) mid_is ∙ get_or-set_same rows k (Some f.after) None inside;
          closing = subst (IsClosing key taken held w answer (table_of mid) marks) place (subst (λ (t : OpenJobs). IsClosing key taken held w answer t marks row.place) (sym table_is) closing);
          jobs = subst (AllJobs key) (sym mid_is) (jobs_set key rows k f.after inside r.keeps.jobs (subst (λ (gs : Graphs). IsJob gs.graphs key.workers f.after.job) (sym r.keeps.graphs_are) (subst (λ (n : ℕ). IsJob graphs.graphs n f.after.job) r.workers_are f.finishes.is_job)));
        }

-- ---- the worker runs nothing then

module _ (graphs : Graphs) (signatures : List Counts) (key : Key) (taken : List Step) (old : Replay) (r : Replays graphs key taken old) (signed : key.signatures ≡ signatures) (w : ℕ) (lt : w < length old.running.items) (run : Run) (runs : get_or old.running.items w None ≡ Some run) where
  pub runs_it : RunsIt graphs signatures old.workers old.rows.items run key taken (held_of old.running.items) w
  runs_it = record {
    keeps = r.keeps;
    workers_are = r.workers_are;
    signatures_are = signed;
    is_worker = let e = r.one_each in omega arith;
    runs = ap held_as runs;
  }

  pub leaves : (new : Replay) → new.workers ≡ old.workers → new.running.items ≡ set old.running.items w None → FinishesRun key taken (held_of old.running.items) w new.rows.items new.end → Leaves graphs key taken w new
  leaves new workers running (answer, closes) = (answer, go new.end refl closes)
    where
      held_is : hold (held_of old.running.items) w None ≡ held_of new.running.items
      held_is = sym (ap held_of running ∙ held_set old.running.items w None lt)

      replays : (end : Option Own) → new.end ≡ end → KeptAs key (taken ++ steps.Finish w answer ∷ []) (table_of new.rows.items) (hold (held_of old.running.items) w None) → AllJobs key new.rows.items → HasEnd (state_after key (taken ++ steps.Finish w answer ∷ [])).marks end → Replays graphs key (taken ++ steps.Finish w answer ∷ []) new
      replays end is kept jobs ended = record {
        keeps = record { is_key = r.keeps.is_key; graphs_are = r.keeps.graphs_are; kept = subst (λ (h : Held). KeptAs key (taken ++ steps.Finish w answer ∷ []) (table_of new.rows.items) h) held_is kept; jobs = jobs };
        workers_are = workers ∙ r.workers_are;
        one_each = ap (λ (l : List (Option Run)). length l) running ∙ (length-set old.running.items w None ∙ r.one_each);
        end_is = subst (HasEnd (state_after key (taken ++ steps.Finish w answer ∷ [])).marks) (sym is) ended;
      }

      go : (end : Option Own) → new.end ≡ end → ClosesTo new.rows.items record { key = key; taken = taken; held = held_of old.running.items; worker = w; answer = answer } end → Replays graphs key (taken ++ steps.Finish w answer ∷ []) new
      go None is c = replays None is c.kept c.jobs c.top
      go (Some end) is c = replays (Some end) is c.over.kept c.jobs c.over.done

-- and its finish is entered
pub makes : FinishesAreEntered → (graphs : Graphs) (key : Key) (n : ℕ) (taken : List Step) (w : ℕ) (line : List ℕ) (new : Replay) → Leaves graphs key taken w new → line ≡ entry_line n (Finish w) → Makes graphs key n taken line new
makes enter graphs key n taken w line new (answer, replays) is = record { step = steps.Finish w answer; entry = Finish w; entered = enter key taken w answer; line_is = is; replays = replays }
