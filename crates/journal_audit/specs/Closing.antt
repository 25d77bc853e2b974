-- How jobs are closed, from the row of a finished item up.
use Rattle.std.specs.Prelude.{◌≡◌, ℕ, List, [], ◌∷◌, ◌++◌, Option, Some, None}
use Rattle.nested_jobs.specs.Journals as steps
use Rattle.nested_jobs.specs.Marks.{Marks}
use Rattle.job_rules.specs.Words as words
use Rattle.pisdf_model.specs.declared.graph.Graphs.{Graphs}
use Rattle.pisdf_meaning.specs.declared.firing.Firing.{Firing}
use Rattle.board_rules.specs.Board.{Held, IsClosing, KeptAs, hold}
use Rattle.board_rules.specs.BoardLaws.{IsOver}
use Rattle.board_rules.specs.Entries.{Step}
use Rattle.board_rules.specs.Keys.{IsKey, Key}
use Rattle.board_rules.specs.Legal.{state_after}
use Rattle.audit_job.specs.Marks.{answer_of}
use Rattle.audit_job.specs.declared.answer.Answer.{Answer}
use Rattle.journal_audit.specs.Standing.{AllJobs, IsOpenAt}
use Rattle.journal_audit.specs.Table.{row_at, table_of}
use Rattle.journal_audit.specs.declared.table.Row.{Row}

-- the finish of a worker with an answer, after these steps
pub record Finishing : Type 0 where
  pub key : Key
  pub taken : List Step
  pub held : Held
  pub worker : ℕ
  pub answer : words.Answer

-- the steps with it
abbrev pub steps_with : Finishing → List Step
steps_with f = f.taken ++ steps.Finish f.worker f.answer ∷ []

-- it is under way: what is left to do is to close jobs from this row up
pub record ClosesFrom (graphs : Graphs) (rows : List (Option Row)) (k : ℕ) (f : Finishing) : Type 0 where
  pub is_key : IsKey f.key
  pub graphs_are : f.key.graphs ≡ graphs
  pub marks : Marks Firing words.Answer
  pub row : Row
  pub here : row_at rows k ≡ Some row
  pub closing : IsClosing f.key f.taken f.held f.worker f.answer (table_of rows) marks row.place
  pub jobs : AllJobs f.key rows

-- it is done, with the top job open still
pub record ClosesInside (rows : List (Option Row)) (f : Finishing) : Type 0 where
  pub kept : KeptAs f.key (steps_with f) (table_of rows) (hold f.held f.worker None)
  pub jobs : AllJobs f.key rows
  pub top : IsOpenAt (state_after f.key (steps_with f)).marks []

-- it closed the top job, which ends so
pub record ClosesAll (rows : List (Option Row)) (f : Finishing) (end : Answer) : Type 0 where
  pub over : IsOver f.key (steps_with f) (table_of rows) (hold f.held f.worker None) (answer_of end)
  pub jobs : AllJobs f.key rows

abbrev pub ClosesTo : List (Option Row) → Finishing → Option Answer → Type 0
ClosesTo rows f None = ClosesInside rows f
ClosesTo rows f (Some end) = ClosesAll rows f end
