-- The item that is picked for a worker, and how its job is opened.
use Rattle.std.proofs.Common.{◌≡◌, ℕ, true, false, List, ◌∷◌, ◌++◌, Option, Some, refl, ap, ◌∙◌, subst}
use Rattle.std.specs.Option.{option_map}
use Rattle.job_rules.specs.Items.{rule}
use Rattle.job_rules.specs.Meant.{rank}
use Rattle.job_rules.specs.Words as words
use Rattle.nested_jobs.proofs.Nesting.{journal_nested}
use Rattle.nested_jobs.specs.Marks.{Free}
use Rattle.nested_jobs.specs.Rules.{Call, Place, Task, Work}
use Rattle.nested_jobs.specs.Steps.{IsEnabled}
use Rattle.pisdf_model.specs.declared.graph.Graphs.{Graphs}
use Rattle.pisdf_meaning.specs.declared.firing.Firing.{Firing}
use Rattle.board_rules.specs.Asking.{IsOffered, JobRow, NoRowOffers}
use Rattle.board_rules.specs.AskingLaws.{FirstWorkIsPicked, NothingIsEnabled, OpenedWorkIsPicked, PathsAreApart}
use Rattle.board_rules.specs.Board.{Held}
use Rattle.board_rules.specs.BoardLaws.{NothingOpened}
use Rattle.board_rules.specs.Entries.{Step}
use Rattle.board_rules.specs.Keys.{Key, rules, top_job}
use Rattle.board_rules.specs.Legal.{state_after}
use Rattle.board_rules.specs.Offers.{calls}
use Rattle.board_rules.specs.Picks.{IsPick}
use Rattle.audit_job.specs.Marks.{answers}
use Rattle.firing_board.specs.Table.Laws.{CallsAreFit}
use Rattle.journal_audit.specs.Asking.{HasFirst, PathsDiffer}
use Rattle.journal_audit.specs.Opening.{CallsHere, IsFound, Reaches}
use Rattle.journal_audit.specs.Standing.{KeepsBoard, StandsSo}
use Rattle.journal_audit.specs.Table.{job_row, row_at, table_of}
use Rattle.journal_audit.specs.declared.table.Row.{Row}
use Rattle.journal_audit.specs.declared.table.Run.{Run}
use Rattle.journal_audit.proofs.LastSteps.{AllLawful}
use Rattle.journal_audit.proofs.Rows.{in_table, row_behind, the_same}

call_of : (t : Task Firing words.Work) → calls t ≡ true → (d : Firing) × (t ≡ Call d)
call_of (Work work) is = absurd (cc)
call_of (Call d) is = (d, refl)

work_of : (t : Task Firing words.Work) → calls t ≡ false → (w : words.Work) × (t ≡ Work w)
work_of (Work work) is = (work, refl)
work_of (Call d) is = absurd (cc)

module _ (law : AllLawful) (graphs : Graphs) (rows : List (Option Row)) (key : Key) (taken : List Step) (held : Held) (b : KeepsBoard graphs rows key taken held) where
  pub stands : StandsSo graphs rows key (state_after key taken).marks
  stands = record {
    is_key = b.is_key;
    graphs_are = b.graphs_are;
    nested = journal_nested (rules key) (rank key.graphs.graphs) (law key.graphs b.is_key.valid.valid) (top_job key) taken;
    stands = b.kept.stands;
    jobs = b.jobs;
  }

  module _ (apart : PathsAreApart) where
    pub differ : PathsDiffer key (state_after key taken).marks
    differ p q c d one two same = apart key taken p q c d b.is_key b.kept.legal one two same

  offered_call : (jr : JobRow) (row : Row) (item : ℕ) → jr ≡ job_row row → IsOffered key true jr item → (d : Firing) × (rule key.graphs.graphs row.job.firing (answers row.job.marks.items) item ≡ Some (Call d)) × ((job_row row).marks item ≡ Free)
  offered_call jr row item is offered =
      let o = subst (λ (r : JobRow). IsOffered key true r item) is offered in
      let d = call_of o.task o.kind in
      (d.0, o.has_task ∙ ap (λ (t : Task Firing words.Work). Some t) d.1, o.free)

  offered_work : (jr : JobRow) (row : Row) (item : ℕ) → jr ≡ job_row row → IsOffered key false jr item → (w : words.Work) × (rule key.graphs.graphs row.job.firing (answers row.job.marks.items) item ≡ Some (Work w)) × ((job_row row).marks item ≡ Free)
  offered_work jr row item is offered =
      let o = subst (λ (r : JobRow). IsOffered key false r item) is offered in
      let w = work_of o.task o.kind in
      (w.0, o.has_task ∙ ap (λ (t : Task Firing words.Work). Some t) w.1, o.free)

  -- the first call may be opened
  pub first_calls : CallsAreFit → (w : ℕ) (at : Run) → HasFirst key (state_after key taken).marks w true rows at → CallsHere graphs key (state_after key taken).marks rows at
  first_calls fit w at f =
      let r = row_behind (row_at rows at.row) f.row f.first.here in
      let o = offered_call f.row r.0 at.item r.2 f.first.first.offered in
      record {
        so = stands;
        row = r.0;
        here = r.1;
        free = o.2;
        firing = o.0;
        task_is = subst (λ (gs : Graphs). rule gs.graphs r.0.job.firing (answers r.0.job.marks.items) at.item ≡ Some (Call o.0)) b.graphs_are o.1;
        fit = subst (λ (gs : Graphs). Rattle.job_rules.specs.Meant.IsFit gs.graphs o.0) b.graphs_are (fit key taken (table_of rows) held at.row at.item (job_row r.0) o.0 b.is_key b.kept (in_table rows at.row r.0 r.1) o.1);
      }

  -- the first work is picked
  pub work_found : NothingOpened → FirstWorkIsPicked → (w : ℕ) (at : Run) → HasFirst key (state_after key taken).marks w false rows at → IsFound graphs key taken rows w rows at
  work_found nothing picked w at f =
      let m = (state_after key taken).marks in
      let r = row_behind (row_at rows at.row) f.row f.first.here in
      let o = offered_work f.row r.0 at.item r.2 f.first.first.offered in
      let place : f.row.place ≡ r.0.place = ap (λ (x : JobRow). x.place) r.2 in
      record {
        marks = m;
        so = stands;
        row = r.0;
        here = r.1;
        free = o.2;
        work = o.0;
        task_is = o.1;
        opened = nothing key taken (table_of rows) held (at.item ∷ r.0.place) b.is_key b.kept;
        picked = subst (λ (p : Place). IsPick key m w at.item p) place (picked key taken (table_of rows) held w at.row f.row (record { item = at.item; away = f.away; urgency = f.urgency }) b.is_key b.kept f.first);
      }

  -- the work that the first call leads to is picked
  pub call_found : CallsAreFit → NothingOpened → OpenedWorkIsPicked → NoRowOffers key false (table_of rows) → (w : ℕ) (at : Run) (f : HasFirst key (state_after key taken).marks w true rows at) → (new : List (Option Row)) (run : Run) →
      ((c : CallsHere graphs key (state_after key taken).marks rows at) → Reaches graphs key (state_after key taken).marks rows at.item c.row.place new run) → IsFound graphs key taken rows w new run
  call_found fit nothing picked none w at f new run way =
      let m = (state_after key taken).marks in
      let table = table_of rows in
      let c = first_calls fit w at f in
      let r = way c in
      let same : c.row.place ≡ f.row.place = ap (λ (x : JobRow). x.place) (the_same (table at.row) (job_row c.row) f.row (ap (option_map job_row) c.here) f.first.here) in
      let opened = r.opened table m (λ j ys. nothing key taken table held (j ∷ ys ++ at.item ∷ c.row.place) b.is_key b.kept) in
      record {
        marks = r.marks;
        so = r.so;
        row = r.row;
        here = r.here;
        free = r.free;
        work = r.work;
        task_is = r.task_is;
        opened = opened;
        picked = picked key taken table held w at.row run.row run.item r.first r.way f.row (job_row r.row) (record { item = at.item; away = f.away; urgency = f.urgency }) r.work (table_of new) r.marks b.is_key b.kept none f.first r.are_first
            (r.place_is ∙ ap (λ (p : Place). r.first ∷ r.way ++ at.item ∷ p) same)
            opened (in_table new run.row r.row r.here) r.free r.task_is;
      }

  pub none_found : NothingIsEnabled → NoRowOffers key false (table_of rows) → NoRowOffers key true (table_of rows) → (a : Place) → ¬ (IsEnabled (rules key) (state_after key taken).marks a)
  none_found nothing none no_calls a = nothing key taken (table_of rows) held a b.is_key b.kept none no_calls
