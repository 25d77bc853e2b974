-- What the rows of a table keep of the marks that the table stands for.
use Rattle.std.specs.Prelude.{◌≡◌, ℕ, [], ◌∷◌, Option, Some, None}
use Rattle.board_rules.specs.Keys.{IsKey, Key, rules, top_job}
use Rattle.board_rules.specs.Picks.{steps_to}
use Rattle.job_rules.specs.Words.{Answer}
use Rattle.nested_jobs.specs.Invariants.{Nested}
use Rattle.nested_jobs.specs.Marks.{Marks}
use Rattle.nested_jobs.specs.Rules.{Place}
use Rattle.nested_jobs.specs.Tables.{StandsFor}
use Rattle.pisdf_meaning.specs.declared.firing.Firing.{Firing}
use Rattle.firing_board.specs.Table.View.{TableView, row_at, table_of}
use Rattle.firing_board.specs.declared.table.row.Row.{Row}

-- the key of the row round a place; the top job has none
abbrev pub IsUpper : TableView → Place → Option ℕ → Type 0
IsUpper v [] upper = upper ≡ None
IsUpper v (i ∷ p) None = ⊥
IsUpper v (i ∷ p) (Some k) = (row : Row) × (row_at v k ≡ Some row) × (row.place ≡ p)

-- the row's job is one of the key's, its steps are the path of its place, and its upper is the row round it
pub record RowSuits (key : Key) (m : Marks Firing Answer) (v : TableView) (row : Row) : Type 0 where
  pub graphs_are : row.job.graphs ≡ key.graphs
  pub workers_are : row.job.workers ≡ key.workers
  pub steps_are : row.steps ≡ steps_to key m row.place
  pub upper_is : IsUpper v row.place row.upper

-- the table stands for these marks, and each of its rows suits them
pub record Suits (key : Key) (m : Marks Firing Answer) (v : TableView) : Type 0 where
  pub is_key : IsKey key
  pub graphs_are : v.graphs ≡ key.graphs
  pub workers_are : v.workers ≡ key.workers
  pub nested : Nested (rules key) (top_job key) m
  pub stands : StandsFor (table_of v) m
  pub rows : (k : ℕ) (row : Row) → row_at v k ≡ Some row → RowSuits key m v row
