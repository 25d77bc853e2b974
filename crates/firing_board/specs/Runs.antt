-- What a worker runs.
use Rattle.std.specs.Prelude.{◌≡◌, ℕ, ◌<◌, List, Some, None, false, length}
use Rattle.nested_jobs.specs.Journals.{task_of}
use Rattle.nested_jobs.specs.Rules.{Place, Work}
use Rattle.job_rules.specs.Words as words
use Rattle.board_rules.specs.Entries.{BoardState, Step}
use Rattle.board_rules.specs.Keys.{IsKey, Key, rules}
use Rattle.board_rules.specs.Legal.{state_after}
use Rattle.firing_board.specs.Firings.{AreOpen, OneOwnerOfAll}
use Rattle.firing_board.specs.View.{BoardView, IsAt, lent_to}

-- a worker runs an item, whose task is this work
pub record RunsWork (key : Key) (s : BoardState) (w : ℕ) (work : words.Work) : Type 0 where
  pub place : Place
  pub runs : s.running w ≡ Some place
  pub task : task_of (rules key) s.marks place ≡ Some (Work work)

-- a worker of the board runs nothing
pub record IsIdle (b : BoardView) (w : ℕ) : Type 0 where
  pub is_worker : w < b.key.workers
  pub taken : List Step
  pub at : IsAt b taken
  pub runs_none : (state_after b.key taken).running w ≡ None

-- none of them does
pub record AreAllIdle (b : BoardView) : Type 0 where
  pub taken : List Step
  pub at : IsAt b taken
  pub run_none : (w : ℕ) → w < b.key.workers → (state_after b.key taken).running w ≡ None

-- a worker of the board runs work of which this holds
pub record Runs (b : BoardView) (w : ℕ) (P : words.Work → Type 0) : Type 0 where
  pub is_worker : w < b.key.workers
  pub taken : List Step
  pub at : IsAt b taken
  pub work : words.Work
  pub runs : RunsWork b.key (state_after b.key taken) w work
  pub so : P work

-- what is true of every board: its key is one, each worker has a place for what is lent to it, steps were taken, a worker that
-- runs nothing has no frame, no cell has two owners, and unless memory was wanted the open firings are those with keys
pub record IsSound (b : BoardView) : Type 0 where
  pub is_key : IsKey b.key
  pub one_each : length b.lent ≡ b.key.workers
  pub taken : List Step
  pub at : IsAt b taken
  pub unlent : (w : ℕ) → (state_after b.key taken).running w ≡ None → lent_to b w ≡ None
  pub owners : OneOwnerOfAll (state_after b.key taken) b.lent
  pub open_so : b.starved ≡ false → AreOpen b.firings (state_after b.key taken).marks
