-- The open jobs of a replay, in the words of the rules of boards.
use Rattle.std.specs.Prelude.{◌≡◌, ℕ, ◌<◌, List, Option, Some, None, length, slice_index_or}
use Rattle.std.specs.Option.{option_map}
use Rattle.nested_jobs.specs.Rules.{Place}
use Rattle.board_rules.specs.Asking.{JobRow}
use Rattle.board_rules.specs.Board.{Held, OpenJobs}
use Rattle.audit_job.specs.Jobs.{row_of}
use Rattle.journal_audit.specs.declared.table.Row.{Row}
use Rattle.journal_audit.specs.declared.table.Run.{Run}

abbrev pub job_row : Row → JobRow
job_row row = row_of row.place row.job

-- the row at a key
abbrev pub row_at : List (Option Row) → ℕ → Option Row
row_at rows k = slice_index_or rows k None

abbrev pub table_of : List (Option Row) → OpenJobs
table_of rows k = option_map job_row (row_at rows k)

abbrev pub held_as : Option Run → Option (ℕ × ℕ)
held_as run = option_map (λ (r : Run). (r.row, r.item)) run

-- what each worker runs
abbrev pub held_of : List (Option Run) → Held
held_of running w = held_as (slice_index_or running w None)

-- a row is there, and its job is at this place
abbrev pub IsAt : Place → Option Row → Type 0
IsAt place None = ⊥
IsAt place (Some row) = row.place ≡ place

-- the key of the row of the job at a place; none where there is no such row
abbrev pub IsKeyOf : List (Option Row) → Place → Option ℕ → Type 0
IsKeyOf rows place None = (k : ℕ) → ¬ (IsAt place (row_at rows k))
IsKeyOf rows place (Some k) = IsAt place (row_at rows k)

-- a key at which no row stands
pub record IsVacant (rows : List (Option Row)) (k : ℕ) : Type 0 where
  pub inside : k < length rows
  pub none : row_at rows k ≡ None

-- the same rows at all keys
abbrev pub SameRows : List (Option Row) → List (Option Row) → Type 0
SameRows old new = (k : ℕ) → row_at new k ≡ row_at old k
