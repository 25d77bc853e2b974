-- What the rows of a replay stand for.
use Rattle.std.specs.Prelude.{◌≡◌, ℕ, List, [], ◌∷◌, Option, Some}
use Rattle.nested_jobs.specs.Invariants.{Nested}
use Rattle.nested_jobs.specs.Marks.{Mark, Free, Busy, Open, Done, Marks, values}
use Rattle.nested_jobs.specs.Rules.{Place}
use Rattle.nested_jobs.specs.Tables.{StandsFor}
use Rattle.job_rules.specs.Items.{graph_of, prepared_in}
use Rattle.job_rules.specs.Words.{Answer}
use Rattle.pisdf_model.specs.declared.graph.Graphs.{Graphs}
use Rattle.pisdf_meaning.specs.declared.firing.Firing.{Firing}
use Rattle.board_rules.specs.Board.{Held, KeptAs}
use Rattle.board_rules.specs.Entries.{Step}
use Rattle.board_rules.specs.Keys.{IsKey, Key, rules, top_job}
use Rattle.board_rules.specs.Picks.{step_of_item}
use Rattle.audit_job.specs.Jobs.{IsJob}
use Rattle.journal_audit.specs.Table.{row_at, table_of}
use Rattle.journal_audit.specs.declared.table.Row.{Row}

-- each row has a job of the key's graphs, mapped on its workers
abbrev pub AllJobs : Key → List (Option Row) → Type 0
AllJobs key rows = (k : ℕ) (row : Row) → row_at rows k ≡ Some row → IsJob key.graphs.graphs key.workers row.job

-- the rows stand for these marks
pub record StandsSo (graphs : Graphs) (rows : List (Option Row)) (key : Key) (marks : Marks Firing Answer) : Type 0 where
  pub is_key : IsKey key
  pub graphs_are : key.graphs ≡ graphs
  pub nested : Nested (rules key) (top_job key) marks
  pub stands : StandsFor (table_of rows) marks
  pub jobs : AllJobs key rows

-- for some
abbrev pub Stands : List (Option Row) → Type 0
Stands rows = (graphs : Graphs) × (key : Key) × (marks : Marks Firing Answer) × StandsSo graphs rows key marks

-- the rows, with what each worker runs, are those of a board after these steps
pub record KeepsBoard (graphs : Graphs) (rows : List (Option Row)) (key : Key) (taken : List Step) (held : Held) : Type 0 where
  pub is_key : IsKey key
  pub graphs_are : key.graphs ≡ graphs
  pub kept : KeptAs key taken (table_of rows) held
  pub jobs : AllJobs key rows

abbrev pub IsBoard : Graphs → List (Option Row) → Type 0
IsBoard graphs rows = (key : Key) × (taken : List Step) × (held : Held) × KeepsBoard graphs rows key taken held

-- ---- the way to a place

abbrev pub IsOpenAt : Marks Firing Answer → Place → Type 0
IsOpenAt marks place = (job : Firing) × (marks place ≡ Open job)

abbrev pub step_under : Key → Marks Firing Answer → Place → ℕ → Mark Firing Answer → ℕ × ℕ
step_under key m p i Free = (0, 0)
step_under key m p i Busy = (0, 0)
step_under key m p i (Open job) = step_of_item key (graph_of key.graphs.graphs job) job i (prepared_in (graph_of key.graphs.graphs job) (values m p))
step_under key m p i (Done answer) = (0, 0)

-- the actor and the firing that an item of an open job is
abbrev pub last_step : Key → Marks Firing Answer → Place → ℕ × ℕ
last_step key m [] = (0, 0)
last_step key m (i ∷ p) = step_under key m p i (m p)
