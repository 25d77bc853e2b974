-- How jobs are opened for a claim.
use Rattle.std.specs.Prelude.{◌≡◌, ℕ, ◌≤◌, List, ◌∷◌, ◌++◌, Some}
use Rattle.nested_jobs.specs.Marks.{Free, Marks}
use Rattle.nested_jobs.specs.Rules.{Call, Place, Work}
use Rattle.job_preparing.specs.Handing.{mark_at}
use Rattle.job_rules.specs.Meant.{IsFit}
use Rattle.job_rules.specs.Words as words
use Rattle.job_rules.specs.Words.{Answer}
use Rattle.graph_firing.specs.View.{IsOfferedCall, task}
use Rattle.pisdf_meaning.specs.declared.firing.Firing.{Firing}
use Rattle.board_rules.specs.Board.{HasOpened, OpenJobs}
use Rattle.board_rules.specs.Keys.{Key}
use Rattle.board_rules.specs.Offers.{AreFirst}
use Rattle.firing_board.specs.Table.Calls.{AsksAsBefore, LendsAsBefore, OpensChild}
use Rattle.firing_board.specs.Table.Suits.{Suits}
use Rattle.firing_board.specs.Table.View.{TableView, row_at, table_of}
use Rattle.firing_board.specs.declared.table.row.Row.{Row}
use Rattle.firing_board.specs.Core.{AreNumbered, RowsLast}
use Rattle.firing_board.specs.Starved.{Lasts}
use Rattle.firing_board.specs.declared.state.Core.{Core}
use Rattle.firing_board.specs.declared.run.Run.{Run}

-- an item of an open job, which is free and calls a job that is given what its graph takes
pub record Calls (key : Key) (m : Marks Firing Answer) (table : TableView) (at : Run) : Type 0 where
  pub suits : Suits key m table
  pub row : Row
  pub here : row_at table at.row ≡ Some row
  pub offered : IsOfferedCall row.job at.item
  pub fit : (firing : Firing) → task row.job at.item ≡ Some (Call firing) → IsFit key.graphs.graphs firing

-- a table of some key and some marks has one there
pub record MayOpen (c : Core) (at : Run) : Type 0 where
  pub key : Key
  pub marks : Marks Firing Answer
  pub calls : Calls key marks c.table at

-- nothing but the open jobs, the paths and the room in the journal changes
pub record KeepsRuns (old new : Core) : Type 0 where
  pub running_is : new.running ≡ old.running
  pub entries_are : new.journal.entries ≡ old.journal.entries
  pub end_is : new.end ≡ old.end
  pub more : old.journal.room ≤ new.journal.room
  pub lasts : Lasts old.table new.table
  pub rows : RowsLast old.table new.table
  pub lent : LendsAsBefore old.table new.table
  pub rooms_are : new.rooms ≡ old.rooms
  pub asked : AsksAsBefore old.table new.table

-- a job is opened, and the journal has its path
pub record OpensAt (old : Core) (at : Run) (child : ℕ) (new : Core) : Type 0 where
  pub opens : OpensChild at.row at.item old.table child new.table
  pub numbered : AreNumbered old.table old.numbers.items old.journal.paths → AreNumbered new.table new.numbers.items new.journal.paths

-- where jobs are open on the way to an item, as far as the claims below it say
abbrev pub IsOpenTo : Key → OpenJobs → Marks Firing Answer → OpenJobs → Marks Firing Answer → Place → Type 0
IsOpenTo key old m table n place = (j : ℕ) (way : List ℕ) → HasOpened key old m (j ∷ way ++ place) table n

-- jobs were opened from an item on, each by the first item of the one round it, up to one of which the first item is work
pub record Reaches (key : Key) (m : Marks Firing Answer) (table : TableView) (at : Run) (place : Place) (later : TableView) (run : Run) : Type 0 where
  pub marks : Marks Firing Answer
  pub suits : Suits key marks later
  pub row : Row
  pub here : row_at later run.row ≡ Some row
  pub free : mark_at row.job.marks run.item ≡ Free
  pub work : words.Work
  pub task_is : task row.job run.item ≡ Some (Work work)
  pub first : ℕ
  pub way : List ℕ
  pub are_first : AreFirst (first ∷ way)
  pub place_is : run.item ∷ row.place ≡ first ∷ way ++ at.item ∷ place
  pub opened : (old : OpenJobs) (n : Marks Firing Answer) → IsOpenTo key old n (table_of table) m (at.item ∷ place) → HasOpened key old n (run.item ∷ row.place) (table_of later) marks

-- whatever the table stands for
pub record OpensWay (old : Core) (at : Run) (new : Core) (run : Run) : Type 0 where
  pub reaches : (key : Key) (m : Marks Firing Answer) → (c : Calls key m old.table at) → Reaches key m old.table at c.row.place new.table run
  pub numbered : AreNumbered old.table old.numbers.items old.journal.paths → AreNumbered new.table new.numbers.items new.journal.paths
