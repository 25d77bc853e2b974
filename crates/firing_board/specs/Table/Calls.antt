-- What the calls of a table change.
use Rattle.std.specs.Prelude.{◌≡◌, ◌≢◌, ℕ, ◌+◌, ◌≤◌, [], ◌∷◌, ◌++◌, Option, Some, None}
use Rattle.job_preparing.specs.Handing.{IsNothingLent, mark_at}
use Rattle.job_preparing.specs.declared.compiling.CompileEnd.{CompileEnd}
use Rattle.job_rules.specs.Doing.{Answers}
use Rattle.job_rules.specs.Words as words
use Rattle.job_rules.specs.Words.{Answer}
use Rattle.kernel_gate.specs.Value.{Places}
use Rattle.nested_jobs.specs.Marks.{Done, Free, Mark, Open, answer_of}
use Rattle.nested_jobs.specs.Rules.{Call, Work}
use Rattle.graph_firing.specs.Calls.{compile_answer, nodes_by}
use Rattle.graph_firing.specs.Leases.{CellsStay}
use Rattle.graph_firing.specs.View.{OpenView, compilation_of, free_in, left_by, task}
use Rattle.pisdf_model.specs.declared.graph.Graphs.{Graphs}
use Rattle.pisdf_meaning.specs.declared.firing.Firing.{Firing}
use Rattle.graph_firing.specs.Paths.{step_of}
use Rattle.firing_board.specs.Table.View.{TableView, free_items, lent_in, room_in, row_at}
use Rattle.firing_board.specs.declared.table.begins.Begins.{Begins}
use Rattle.firing_board.specs.declared.table.begins.Begins.TheVariants as begins
use Rattle.firing_board.specs.declared.table.row.Row.{Row}

-- ---- rows

-- a job of this firing, of which nothing is claimed
pub record IsFresh (graphs : Graphs) (workers : ℕ) (firing : Firing) (job : OpenView) : Type 0 where
  pub graphs_are : job.graphs ≡ graphs
  pub workers_are : job.workers ≡ workers
  pub firing_is : job.firing ≡ firing
  pub unplaced : job.cells ≡ None
  pub roomless : job.room ≡ None
  pub free : (i : ℕ) → mark_at job.marks i ≡ Free
  pub many : free_in job.marks ≡ compilation_of job + 1
  pub unlent : IsNothingLent job.lent

-- one row, the first, which is that of the top job
pub record IsStarted (graphs : Graphs) (workers : ℕ) (firing : Firing) (v : TableView) : Type 0 where
  pub graphs_are : v.graphs ≡ graphs
  pub workers_are : v.workers ≡ workers
  pub key : ℕ
  pub key_is : key ≡ 0
  pub top : Row
  pub here : row_at v key ≡ Some top
  pub fresh : IsFresh graphs workers firing top.job
  pub place_is : top.place ≡ []
  pub upper_is : top.upper ≡ None
  pub steps_are : top.steps ≡ []
  pub others : (k : ℕ) → k ≢ key → row_at v k ≡ None
  pub rows_are : v.rows ≡ Some top ∷ []
  pub many : free_items v ≡ compilation_of top.job + 1

-- the same row, but for its marks, for what is lent, and for where its cells lie that wasn't compiled
pub record StaysAs (before after : Row) : Type 0 where
  pub place_is : after.place ≡ before.place
  pub upper_is : after.upper ≡ before.upper
  pub steps_are : after.steps ≡ before.steps
  pub graphs_are : after.job.graphs ≡ before.job.graphs
  pub workers_are : after.job.workers ≡ before.job.workers
  pub firing_is : after.job.firing ≡ before.job.firing
  pub cells_stay : CellsStay before.job.cells after.job.cells

-- the same rows at all keys but these
abbrev pub OthersStay : (k l : ℕ) → (old new : TableView) → Type 0
OthersStay k l old new = (j : ℕ) → j ≢ k → j ≢ l → row_at new j ≡ row_at old j

-- ---- marks

-- one item of the job in a row is marked so
pub record MarksItem (k item : ℕ) (mark : Mark Firing Answer) (old new : TableView) : Type 0 where
  pub graphs_are : new.graphs ≡ old.graphs
  pub workers_are : new.workers ≡ old.workers
  pub before : Row
  pub here : row_at old k ≡ Some before
  pub after : Row
  pub now : row_at new k ≡ Some after
  pub stays : StaysAs before after
  pub marked : mark_at after.job.marks item ≡ mark
  pub unmarked : (i : ℕ) → i ≢ item → mark_at after.job.marks i ≡ mark_at before.job.marks i
  pub others : OthersStay k k old new

-- what is lent of one item of the job in a row is this, and else as before
pub record LendsItem (k item : ℕ) (places : Option Places) (old new : TableView) : Type 0 where
  pub here : lent_in new k item ≡ places
  pub in_job : (i : ℕ) → i ≢ item → lent_in new k i ≡ lent_in old k i
  pub others : (j i : ℕ) → j ≢ k → lent_in new j i ≡ lent_in old j i

-- what is lent is as before
abbrev pub LendsAsBefore : (old new : TableView) → Type 0
LendsAsBefore old new = (k i : ℕ) → lent_in new k i ≡ lent_in old k i

-- the frames of nodes take what they took
abbrev pub AsksAsBefore : (old new : TableView) → Type 0
AsksAsBefore old new = (k : ℕ) → room_in new k ≡ room_in old k

-- ---- openings

-- an item calls a job, which was opened at this key, where no row was
pub record OpensChild (k item : ℕ) (old : TableView) (l : ℕ) (new : TableView) : Type 0 where
  pub graphs_are : new.graphs ≡ old.graphs
  pub workers_are : new.workers ≡ old.workers
  pub upper : Row
  pub here : row_at old k ≡ Some upper
  pub firing : Firing
  pub task_is : task upper.job item ≡ Some (Call firing)
  pub free : mark_at upper.job.marks item ≡ Free
  pub after : Row
  pub now : row_at new k ≡ Some after
  pub stays : StaysAs upper after
  pub marked : mark_at after.job.marks item ≡ Open firing
  pub unmarked : (i : ℕ) → i ≢ item → mark_at after.job.marks i ≡ mark_at upper.job.marks i
  pub vacant : row_at old l ≡ None
  pub child : Row
  pub added : row_at new l ≡ Some child
  pub fresh : IsFresh old.graphs old.workers firing child.job
  pub place_is : child.place ≡ item ∷ upper.place
  pub upper_is : child.upper ≡ Some k
  pub steps_are : child.steps ≡ upper.steps ++ step_of upper.job item ∷ []
  pub others : OthersStay k l old new
  pub many : free_items new ≡ free_items old + compilation_of child.job

-- the rows are as before, but for the mark of an item, which has no answer
pub record SpoilsItem (k item : ℕ) (old new : TableView) : Type 0 where
  pub graphs_are : new.graphs ≡ old.graphs
  pub workers_are : new.workers ≡ old.workers
  pub before : Row
  pub here : row_at old k ≡ Some before
  pub after : Row
  pub now : row_at new k ≡ Some after
  pub stays : StaysAs before after
  pub unanswered : answer_of (mark_at after.job.marks item) ≡ None
  pub unmarked : (i : ℕ) → i ≢ item → mark_at after.job.marks i ≡ mark_at before.job.marks i
  pub others : OthersStay k k old new

-- ---- the first item

-- the task of item 0 is work, or a call
abbrev pub BeginsWith : OpenView → Begins → Type 0
BeginsWith job begins.Work = (work : words.Work) × (task job 0 ≡ Some (Work work))
BeginsWith job begins.Call = (firing : Firing) × (task job 0 ≡ Some (Call firing))

-- ---- the compilation

-- the compilation of the job in a row, which ended so, is done with this answer
pub record FinishesIn (k : ℕ) (end : CompileEnd) (old new : TableView) (job : OpenView) : Type 0 where
  pub answer : Answer
  pub answer_is : compile_answer job.firing end ≡ Some answer
  pub answered : Answers job.graphs.graphs (words.Compiles job.firing (left_by job)) answer
  pub marks : MarksItem k (compilation_of job) (Done answer) old new
  pub free : free_items new ≤ free_items old + nodes_by end
