-- How a worker gives back what it runs.
use Rattle.std.specs.Prelude.{◌≡◌, ℕ, ◌+◌, ◌≤◌, [], ◌∷◌, ◌++◌, Option, Some, None, Result, slice_index_or, slice_set}
use Rattle.kernel_gate.specs.Value.{FrameView, Places}
use Rattle.kernel_gate.specs.declared.fault.KernelFault.{KernelFault}
use Rattle.nested_jobs.specs.Marks.{Busy, Done}
use Rattle.job_preparing.specs.CompileTasks.{IsEndOf}
use Rattle.job_preparing.specs.Handing.{answer_with, mark_at}
use Rattle.job_preparing.specs.declared.compiling.CompileEnd.{CompileEnd}
use Rattle.graph_firing.specs.Calls.{IsSoundFor}
use Rattle.graph_firing.specs.Rooms.{is_node, slot_after}
use Rattle.graph_firing.specs.View.{OpenView, compilation_of, left_by, task}
use Rattle.board_rules.specs.declared.entry.Entry.TheVariants as entry
use Rattle.board_journal.specs.View.{JournalView}
use Rattle.firing_board.specs.Table.Calls.{AsksAsBefore, FinishesIn, LendsAsBefore, LendsItem, MarksItem}
use Rattle.firing_board.specs.Table.View.{lent_in, row_at}
use Rattle.firing_board.specs.FrameRooms.{slot_at}
use Rattle.firing_board.specs.declared.table.row.Row.{Row}
use Rattle.firing_board.specs.declared.state.Core.{Core}
use Rattle.firing_board.specs.declared.run.Run.{Run}

-- a worker runs an item of a job, and this holds of the job, the item, and where the leases of its frame lie
pub record RunsItem (P : OpenView → ℕ → Option Places → Type 0) (c : Core) (w : ℕ) : Type 0 where
  pub run : Run
  pub runs : slice_index_or c.running.items w None ≡ Some run
  pub row : Row
  pub here : row_at c.table run.row ≡ Some row
  pub so : P row.job run.item (lent_in c.table run.row run.item)

-- the item's frame, which is out, may come back with this result
pub record MayReturn (frame : FrameView) (sound : Type 0) (job : OpenView) (i : ℕ) (places : Option Places) : Type 0 where
  pub busy : mark_at job.marks i ≡ Busy
  pub lent : places ≡ Some frame.places
  pub sound_so : IsSoundFor (task job i) sound

-- the item is the job's compilation, which may end so
pub record MayCompile (end : CompileEnd) (job : OpenView) (i : ℕ) (places : Option Places) : Type 0 where
  pub is_compilation : i ≡ compilation_of job
  pub busy : mark_at job.marks i ≡ Busy
  pub ends : IsEndOf job.graphs.graphs job.workers job.firing (left_by job) end

-- the finish is entered, in room that was taken
pub record HasFinish (old : JournalView) (w : ℕ) (new : JournalView) : Type 0 where
  pub paths_are : new.paths ≡ old.paths
  pub entries_are : new.entries ≡ old.entries ++ entry.Finish w ∷ []
  pub room : old.room ≤ new.room + 1

-- the finish is entered, and the worker runs nothing
pub record Leaves (old : Core) (w : ℕ) (run : Run) (new : Core) : Type 0 where
  pub ran : slice_index_or old.running.items w None ≡ Some run
  pub running_are : new.running.items ≡ slice_set old.running.items w None
  pub numbers_are : new.numbers ≡ old.numbers
  pub journal_is : HasFinish old.journal w new.journal
  pub end_is : new.end ≡ old.end

-- the frame is back, and what its kernel or its node wrote is the item's answer; the room of a node's frame is back in the slot of
-- the worker, or was given up
pub record Returns (frame : FrameView) (result : Result (Unit {0}) KernelFault) (old : Core) (w : ℕ) (new : Core) (k : ℕ) : Type 0 where
  pub run : Run
  pub row_is : k ≡ run.row
  pub leaves : Leaves old w run new
  pub row : Row
  pub here : row_at old.table run.row ≡ Some row
  pub marks : MarksItem run.row run.item (Done (answer_with (task row.job run.item) frame result)) old.table new.table
  pub lends : LendsItem run.row run.item None old.table new.table
  pub asked : AsksAsBefore old.table new.table
  pub size_is : new.rooms.size ≡ old.rooms.size
  pub slots_are : new.rooms.slots.items ≡ slice_set old.rooms.slots.items w (slot_after (is_node row.job run.item) (slot_at old.rooms.slots.items w) frame.places)

-- the compilation is done
pub record Compiles (end : CompileEnd) (old : Core) (w : ℕ) (new : Core) (k : ℕ) : Type 0 where
  pub run : Run
  pub row_is : k ≡ run.row
  pub leaves : Leaves old w run new
  pub row : Row
  pub here : row_at old.table run.row ≡ Some row
  pub finishes : FinishesIn run.row end old.table new.table row.job
  pub lends : LendsAsBefore old.table new.table

-- the worker leaves the compilation, whose job is as before
pub record GivesUp (old : Core) (w : ℕ) (new : Core) : Type 0 where
  pub run : Run
  pub leaves : Leaves old w run new
  pub table_is : new.table ≡ old.table
