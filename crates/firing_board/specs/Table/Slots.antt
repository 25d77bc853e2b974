-- What stands at one key of a table.
use Rattle.std.specs.Prelude.{◌≡◌, ◌⊎◌, ℕ, ◌<◌, Option, Some, None, Result, Ok, Err, List, length, slice_index_or}
use Rattle.std.specs.declared.alloc.AllocError.{AllocError}
use Rattle.job_preparing.specs.View.{HasInherited}
use Rattle.job_preparing.specs.declared.compiling.CompileEnd.{CompileEnd}
use Rattle.job_preparing.specs.Handing.{IsNothingLent}
use Rattle.nested_jobs.specs.Marks.{Busy, Open}
use Rattle.nested_jobs.specs.Rules.{Call}
use Rattle.graph_firing.specs.Calls.{FinishesCompilation, with_mark}
use Rattle.graph_firing.specs.View.{OpenView, task}
use Rattle.pisdf_meaning.specs.declared.firing.Firing.{Firing}
use Rattle.firing_board.specs.Table.View.{with_job}
use Rattle.firing_board.specs.declared.table.row.Row.{Row}

-- a row is there, of whose job this holds
abbrev pub InSlot : (OpenView → Type 0) → Option Row → Type 0
InSlot P None = ⊥
InSlot P (Some row) = P row.job

-- the row, if there is one, whose job is changed so
abbrev pub change_row : (OpenView → OpenView) → Option Row → Option Row
change_row change None = None
change_row change (Some row) = Some (with_job row (change row.job))

-- the item calls this firing, and is open
pub record CallsItem (item : ℕ) (firing : Firing) (old : OpenView) (new : Option Row) (row : Row) : Type 0 where
  pub task_is : task old item ≡ Some (Call firing)
  pub inherited : HasInherited old.graphs.graphs firing
  pub new_is : new ≡ Some (with_job row (with_mark old item (Open firing)))

-- an item that calls a job was opened, or memory was wanted
abbrev pub CallsIn : ℕ → Result Firing AllocError → Option Row → Option Row → Type 0
CallsIn item result None new = ⊥
CallsIn item (Ok firing) (Some row) new = CallsItem item firing row.job new row
CallsIn item (Err error) (Some row) new = (new ≡ Some row) ⊎ (new ≡ Some (with_job row (with_mark row.job item Busy)))

-- the compilation ended so
abbrev pub CompilesSlot : CompileEnd → Option Row → Option Row → Type 0
CompilesSlot end None new = ⊥
CompilesSlot end (Some row) new = (job : OpenView) × FinishesCompilation end row.job job × (new ≡ Some (with_job row job))

-- nothing of it is lent
abbrev pub IsUnlent : Option Row → Type 0
IsUnlent None = Unit {0}
IsUnlent (Some row) = IsNothingLent row.job.lent

-- a key at which no row stands
pub record IsVacant (rows : List (Option Row)) (k : ℕ) : Type 0 where
  pub inside : k < length rows
  pub none : slice_index_or rows k None ≡ None

-- the same rows at all keys
abbrev pub SameRows : List (Option Row) → List (Option Row) → Type 0
SameRows old new = (k : ℕ) → slice_index_or new k None ≡ slice_index_or old k None
