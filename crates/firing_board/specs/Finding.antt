-- The item that is picked for a worker.
use Rattle.std.specs.Prelude.{◌≡◌, ◌⊎◌, ℕ, false, List, ◌∷◌, Option, Some, None}
use Rattle.nested_jobs.specs.Marks.{Marks}
use Rattle.nested_jobs.specs.Rules.{Place}
use Rattle.nested_jobs.specs.Steps.{IsEnabled}
use Rattle.job_rules.specs.Words.{Answer}
use Rattle.graph_firing.specs.View.{IsOfferedWork}
use Rattle.pisdf_meaning.specs.declared.firing.Firing.{Firing}
use Rattle.board_rules.specs.Board.{HasOpened}
use Rattle.board_rules.specs.Entries.{Step}
use Rattle.board_rules.specs.Keys.{Key, rules}
use Rattle.board_rules.specs.Legal.{state_after}
use Rattle.board_rules.specs.Picks.{IsPick, is_open}
use Rattle.firing_board.specs.Table.Suits.{Suits}
use Rattle.firing_board.specs.Table.View.{row_at, table_of}
use Rattle.firing_board.specs.declared.table.row.Row.{Row}
use Rattle.firing_board.specs.Core.{AreNumbered}
use Rattle.firing_board.specs.declared.state.Core.{Core}
use Rattle.firing_board.specs.declared.run.Run.{Run}

-- the item of an open job is picked for a worker, and the jobs on its way are open
pub record IsFound (key : Key) (taken : List Step) (old : Core) (w : ℕ) (new : Core) (run : Run) : Type 0 where
  pub marks : Marks Firing Answer
  pub suits : Suits key marks new.table
  pub row : Row
  pub here : row_at new.table run.row ≡ Some row
  pub offered : IsOfferedWork row.job run.item
  pub opened : HasOpened key (table_of old.table) (state_after key taken).marks (run.item ∷ row.place) (table_of new.table) marks
  pub picked : IsPick key (state_after key taken).marks w run.item row.place
  pub numbered : AreNumbered new.table new.numbers.items new.journal.paths
  -- nothing was opened, or the item's job was
  pub opens : (new ≡ old) ⊎ (is_open ((state_after key taken).marks row.place) ≡ false)

-- none is picked exactly where nothing is enabled
abbrev pub Finds : Key → List Step → Core → ℕ → Core → Option Run → Type 0
Finds key taken old w new None = (new ≡ old) × ((a : Place) → ¬ (IsEnabled (rules key) (state_after key taken).marks a))
Finds key taken old w new (Some run) = IsFound key taken old w new run
