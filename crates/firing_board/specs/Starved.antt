-- What is still known of the open jobs once memory was wanted: the items that workers run can be finished.
use Rattle.std.specs.Prelude.{◌≡◌, ℕ, ◌<◌, Option, Some, None, List, ◌∷◌}
use Rattle.nested_jobs.specs.Journals.{task_of}
use Rattle.nested_jobs.specs.Marks.{Busy}
use Rattle.nested_jobs.specs.Meanings.{Within}
use Rattle.nested_jobs.specs.Rules.{Place, Work}
use Rattle.job_preparing.specs.Handing.{answers, mark_at}
use Rattle.job_rules.specs.Words as words
use Rattle.graph_firing.specs.View.{task}
use Rattle.board_rules.specs.Entries.{BoardState, Step}
use Rattle.board_rules.specs.Keys.{Key, rules}
use Rattle.board_rules.specs.Legal.{AreLegal, journal_of, state_after}
use Rattle.firing_board.specs.Table.Calls.{StaysAs}
use Rattle.firing_board.specs.Table.View.{TableView, row_at}
use Rattle.firing_board.specs.declared.table.row.Row.{Row}
use Rattle.firing_board.specs.Core.{held_of}
use Rattle.firing_board.specs.declared.state.Core.{Core}

-- a worker runs an item of an open job, which is busy there, and whose task is the work that the worker runs
pub record IsStillRun (key : Key) (s : BoardState) (table : TableView) (runs : Option Place) (k i : ℕ) : Type 0 where
  pub row : Row
  pub here : row_at table k ≡ Some row
  pub graphs_are : row.job.graphs ≡ key.graphs
  pub workers_are : row.job.workers ≡ key.workers
  pub busy : mark_at row.job.marks i ≡ Busy
  pub work : words.Work
  pub task_is : task row.job i ≡ Some (Work work)
  pub place_is : runs ≡ Some (i ∷ row.place)
  pub same : task_of (rules key) s.marks (i ∷ row.place) ≡ Some (Work work)

-- the worker runs nothing, or such an item
abbrev pub StillRuns : Key → BoardState → TableView → Option Place → Option (ℕ × ℕ) → Type 0
StillRuns key s table runs None = runs ≡ None
StillRuns key s table runs (Some held) = IsStillRun key s table runs held.0 held.1

-- where these steps were taken, and memory was wanted
pub record StarvesAt (key : Key) (taken : List Step) (c : Core) : Type 0 where
  pub legal : AreLegal key taken
  pub entered : c.journal.entries ≡ journal_of key taken
  pub runs : (w : ℕ) → w < key.workers → StillRuns key (state_after key taken) c.table ((state_after key taken).running w) (held_of c.running.items w)

-- ---- what lasts

-- a row's busy items stay so, and its answers stay
pub record LastsIn (before after : Row) : Type 0 where
  pub stays : StaysAs before after
  pub busy : (i : ℕ) → mark_at before.job.marks i ≡ Busy → mark_at after.job.marks i ≡ Busy
  pub answered : Within (answers before.job.marks) (answers after.job.marks)

-- each row with a busy item lasts so
pub record Lasts (old new : TableView) : Type 0 where
  pub graphs_are : new.graphs ≡ old.graphs
  pub workers_are : new.workers ≡ old.workers
  pub rows : (k i : ℕ) (before : Row) → row_at old k ≡ Some before → mark_at before.job.marks i ≡ Busy → (after : Row) × (row_at new k ≡ Some after) × LastsIn before after
