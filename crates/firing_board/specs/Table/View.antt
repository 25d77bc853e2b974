-- A table of open jobs as plain data.
use Rattle.std.specs.Prelude.{◌≡◌, ℕ, ◌+◌, List, [], ◌∷◌, map, Option, Some, None, slice_index_or}
use Rattle.std.specs.Option.{option_map}
use Rattle.board_rules.specs.Asking.{JobRow}
use Rattle.board_rules.specs.Board.{OpenJobs}
use Rattle.job_preparing.specs.Handing.{lent_at, mark_at}
use Rattle.kernel_gate.specs.Value.{Places}
use Rattle.kernel_gate.specs.declared.room.RoomSize.{RoomSize}
use Rattle.nested_jobs.specs.Rules.{Place}
use Rattle.one_job.specs.Leased.{JobCells}
use Rattle.pisdf_model.specs.declared.graph.Graphs.{Graphs}
use Rattle.graph_firing.specs.View.{OpenView, free_in, total}
use Rattle.firing_board.specs.declared.table.row.Row.{Row}

-- the graphs, how many workers the jobs are mapped on, and the rows by their keys
pub record TableView : Type 0 where
  pub graphs : Graphs
  pub workers : ℕ
  pub rows : List (Option Row)

-- the row at a key
abbrev pub row_at : TableView → ℕ → Option Row
row_at v k = slice_index_or v.rows k None

-- the row at this key has a job of which this holds
abbrev pub HasJob : (OpenView → Type 0) → TableView → ℕ → Type 0
HasJob P v k = (row : Row) × (row_at v k ≡ Some row) × P row.job

-- the same row, whose job is this
abbrev pub with_job : Row → OpenView → Row
with_job row job = record row { job = job }

-- where the leases of the frame lie that is out for an item of the job in a row
abbrev pub lent_by : Option Row → ℕ → Option Places
lent_by None i = None
lent_by (Some row) i = lent_at row.job.lent i

abbrev pub lent_in : TableView → ℕ → ℕ → Option Places
lent_in v k i = lent_by (row_at v k) i

-- how much memory the frame of any node takes of the job in a row
abbrev pub room_by : Option Row → Option RoomSize
room_by None = None
room_by (Some row) = row.job.room

abbrev pub room_in : TableView → ℕ → Option RoomSize
room_in v k = room_by (row_at v k)

-- no frame is out
abbrev pub NothingIsLent : TableView → Type 0
NothingIsLent v = (k i : ℕ) → lent_in v k i ≡ None

-- the keys of the rows, the first of which has this key
abbrev pub keys_from : ℕ → List (Option Row) → List ℕ
keys_from k [] = []
keys_from k (None ∷ rows) = keys_from (k + 1) rows
keys_from k (Some row ∷ rows) = k ∷ keys_from (k + 1) rows

abbrev pub keys_of : TableView → List ℕ
keys_of v = keys_from 0 v.rows

-- how many items of all jobs are free
abbrev pub free_by : Option Row → ℕ
free_by None = 0
free_by (Some row) = free_in row.job.marks

abbrev pub free_items : TableView → ℕ
free_items v = total free_by v.rows

-- ---- open firings

-- the place of an open firing, and where its cells lie once it is compiled
pub record FiringView : Type 0 where
  pub place : Place
  pub cells : Option JobCells

abbrev pub firing_of : Row → FiringView
firing_of row = record { place = row.place; cells = row.job.cells }

-- those of all rows, by their keys
abbrev pub firings_of : TableView → List (Option FiringView)
firings_of v = map (option_map firing_of) v.rows

-- ---- the words of boards

-- a row as the rules of boards have it
abbrev pub job_row : Row → JobRow
job_row row = record { place = row.place; job = row.job.firing; marks = mark_at row.job.marks }

abbrev pub table_of : TableView → OpenJobs
table_of v k = option_map job_row (row_at v k)
