-- How jobs are opened for a claim.
use Rattle.std.specs.Prelude.{◌≡◌, ◌≢◌, ℕ, List, ◌∷◌, ◌++◌, Option, Some, None}
use Rattle.nested_jobs.specs.Marks.{Free, Marks, Open}
use Rattle.nested_jobs.specs.Rules.{Call, Place, Work}
use Rattle.nested_jobs.specs.Steps.{IsEnabled}
use Rattle.nested_jobs.specs.Tables.{fresh_row}
use Rattle.job_rules.specs.Items.{rule}
use Rattle.job_rules.specs.Meant.{IsFit}
use Rattle.job_rules.specs.Words as words
use Rattle.job_rules.specs.Words.{Answer}
use Rattle.pisdf_model.specs.declared.graph.Graph.{Graph}
use Rattle.pisdf_model.specs.declared.graph.Graphs.{Graphs}
use Rattle.pisdf_meaning.specs.declared.firing.Firing.{Firing}
use Rattle.board_rules.specs.Board.{HasOpened, OpenJobs}
use Rattle.board_rules.specs.Entries.{Step}
use Rattle.board_rules.specs.Keys.{Key, rules}
use Rattle.board_rules.specs.Legal.{state_after}
use Rattle.board_rules.specs.Offers.{AreFirst}
use Rattle.board_rules.specs.Picks.{IsPick}
use Rattle.audit_job.specs.Jobs.{IsJob}
use Rattle.audit_job.specs.Marks.{answers, mark_at}
use Rattle.journal_audit.specs.Slots.{MarksRow}
use Rattle.journal_audit.specs.Standing.{StandsSo}
use Rattle.journal_audit.specs.Table.{job_row, row_at, table_of}
use Rattle.journal_audit.specs.declared.opening.Child.{Child}
use Rattle.journal_audit.specs.declared.table.Row.{Row}
use Rattle.journal_audit.specs.declared.table.Run.{Run}

-- what an item of a row is to do by its job
abbrev pub TaskIs : List Graph → Row → ℕ → Firing → Type 0
TaskIs graphs row item firing = rule graphs row.job.firing (answers row.job.marks.items) item ≡ Some (Call firing)

-- an item of an open job is free, and calls a job that is given what its graph takes
pub record CallsHere (graphs : Graphs) (key : Key) (m : Marks Firing Answer) (rows : List (Option Row)) (at : Run) : Type 0 where
  pub so : StandsSo graphs rows key m
  pub row : Row
  pub here : row_at rows at.row ≡ Some row
  pub free : mark_at row.job.marks.items at.item ≡ Free
  pub firing : Firing
  pub task_is : TaskIs graphs.graphs row at.item firing
  pub fit : IsFit graphs.graphs firing

-- the row of the job that an item calls
pub record IsChild (graphs : Graphs) (upper : Row) (item : ℕ) (child : Child) : Type 0 where
  pub task_is : TaskIs graphs.graphs upper item child.called.value
  pub row_is : job_row child.row ≡ fresh_row (item ∷ upper.place) child.called.value
  pub is_job : (workers : ℕ) → IsJob graphs.graphs workers child.row.job

-- an item calls a job, which was opened at this key, where no row was
pub record OpensChild (graphs : Graphs) (at : Run) (old : List (Option Row)) (l : ℕ) (new : List (Option Row)) : Type 0 where
  pub upper : Row
  pub here : row_at old at.row ≡ Some upper
  pub child : Child
  pub is_child : IsChild graphs upper at.item child
  pub after : Row
  pub now : row_at new at.row ≡ Some after
  pub marks : MarksRow at.item (Open child.called.value) upper after
  pub vacant : row_at old l ≡ None
  pub added : row_at new l ≡ Some child.row
  pub others : (j : ℕ) → j ≢ at.row → j ≢ l → row_at new j ≡ row_at old j

-- where jobs are open on the way to an item, as far as the claims below it say
abbrev pub IsOpenTo : Key → OpenJobs → Marks Firing Answer → OpenJobs → Marks Firing Answer → Place → Type 0
IsOpenTo key old m table n place = (j : ℕ) (way : List ℕ) → HasOpened key old m (j ∷ way ++ place) table n

-- jobs were opened from an item on, each by the first item of the one round it, up to one of which the first item is work
pub record Reaches (graphs : Graphs) (key : Key) (m : Marks Firing Answer) (rows : List (Option Row)) (item : ℕ) (place : Place) (later : List (Option Row)) (run : Run) : Type 0 where
  pub marks : Marks Firing Answer
  pub so : StandsSo graphs later key marks
  pub row : Row
  pub here : row_at later run.row ≡ Some row
  pub free : mark_at row.job.marks.items run.item ≡ Free
  pub work : words.Work
  pub task_is : rule key.graphs.graphs row.job.firing (answers row.job.marks.items) run.item ≡ Some (Work work)
  pub first : ℕ
  pub way : List ℕ
  pub are_first : AreFirst (first ∷ way)
  pub place_is : run.item ∷ row.place ≡ first ∷ way ++ item ∷ place
  pub opened : (old : OpenJobs) (n : Marks Firing Answer) → IsOpenTo key old n (table_of rows) m (item ∷ place) → HasOpened key old n (run.item ∷ row.place) (table_of later) marks

-- the item of an open job is picked for a worker, and the jobs on its way are open
pub record IsFound (graphs : Graphs) (key : Key) (taken : List Step) (old : List (Option Row)) (w : ℕ) (new : List (Option Row)) (run : Run) : Type 0 where
  pub marks : Marks Firing Answer
  pub so : StandsSo graphs new key marks
  pub row : Row
  pub here : row_at new run.row ≡ Some row
  pub free : mark_at row.job.marks.items run.item ≡ Free
  pub work : words.Work
  pub task_is : rule key.graphs.graphs row.job.firing (answers row.job.marks.items) run.item ≡ Some (Work work)
  pub opened : HasOpened key (table_of old) (state_after key taken).marks (run.item ∷ row.place) (table_of new) marks
  pub picked : IsPick key (state_after key taken).marks w run.item row.place

-- none is picked only where nothing is enabled
abbrev pub Finds : Graphs → Key → List Step → List (Option Row) → ℕ → List (Option Row) → Option Run → Type 0
Finds graphs key taken old w new None = (a : Place) → ¬ (IsEnabled (rules key) (state_after key taken).marks a)
Finds graphs key taken old w new (Some run) = IsFound graphs key taken old w new run
