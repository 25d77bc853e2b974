-- How jobs are closed, from the row of a finished item up.
use Rattle.std.specs.Prelude.{◌≡◌, ℕ, List, [], ◌∷◌, ◌++◌, Option, Some, None, Result}
use Rattle.board_rules.specs.Board.{Held, IsClosing, KeptAs, hold}
use Rattle.board_rules.specs.BoardLaws.{IsOver}
use Rattle.board_rules.specs.Entries.{Step}
use Rattle.board_rules.specs.Keys.{Key}
use Rattle.board_rules.specs.Legal.{state_after}
use Rattle.job_preparing.specs.Handing.{answers, end_of, mark_at}
use Rattle.nested_jobs.specs.Marks.{Busy, Open}
use Rattle.nested_jobs.specs.Meanings.{Within}
use Rattle.job_preparing.specs.declared.handing.JobGiven.{JobGiven}
use Rattle.job_rules.specs.Words.{Answer, answer_of}
use Rattle.nested_jobs.specs.Journals as steps
use Rattle.nested_jobs.specs.Marks.{Marks}
use Rattle.pisdf_meaning.specs.declared.firing.Firing.{Firing}
use Rattle.pisdf_meaning.specs.declared.refusal.Refusal.{Refusal}
use Rattle.firing_board.specs.Table.Calls.{StaysAs}
use Rattle.firing_board.specs.Table.Suits.{Suits}
use Rattle.firing_board.specs.Table.View.{TableView, row_at, table_of}
use Rattle.firing_board.specs.declared.table.row.Row.{Row}

-- a worker's finish with an answer is under way, after these steps: what is left to do is to close jobs from this row up
pub record IsClosingFrom (v : TableView) (k : ℕ) : Type 0 where
  pub key : Key
  pub taken : List Step
  pub held : Held
  pub worker : ℕ
  pub answer : Answer
  pub marks : Marks Firing Answer
  pub row : Row
  pub here : row_at v k ≡ Some row
  pub closing : IsClosing key taken held worker answer (table_of v) marks row.place
  pub suits : Suits key marks v

-- the steps with the finish, and what workers run after it
abbrev pub steps_with : {v : TableView} {k : ℕ} → IsClosingFrom v k → List Step
steps_with c = c.taken ++ steps.Finish c.worker c.answer ∷ []

abbrev pub held_after : {v : TableView} {k : ℕ} → IsClosingFrom v k → Held
held_after c = hold c.held c.worker None

-- the finish is done with the top job open still, or it closed the top job, which ends so
abbrev pub ClosesTo : {v : TableView} {k : ℕ} → IsClosingFrom v k → TableView → Option (Result JobGiven Refusal) → Type 0
ClosesTo c new None = KeptAs c.key (steps_with c) (table_of new) (held_after c)
ClosesTo c new (Some end) = IsOver c.key (steps_with c) (table_of new) (held_after c) (answer_of (end_of end))

-- whatever finish was under way is done
pub record Closes (old : TableView) (k : ℕ) (new : TableView) (end : Option (Result JobGiven Refusal)) : Type 0 where
  pub closed : (c : IsClosingFrom old k) → ClosesTo c new end
  pub suits : (c : IsClosingFrom old k) → Suits c.key (state_after c.key (steps_with c)).marks new
  pub top : (c : IsClosingFrom old k) → end ≡ None → (job : Firing) × ((state_after c.key (steps_with c)).marks [] ≡ Open job)

-- each row that is left is as it was, but for its marks
pub record RowsStay (old new : TableView) : Type 0 where
  pub graphs_are : new.graphs ≡ old.graphs
  pub workers_are : new.workers ≡ old.workers
  pub rows : (k : ℕ) (after : Row) → row_at new k ≡ Some after → (before : Row) × (row_at old k ≡ Some before) × StaysAs before after × (after.job.lent ≡ before.job.lent) × (after.job.room ≡ before.job.room)
  pub busy : (k i : ℕ) (before : Row) → row_at old k ≡ Some before → mark_at before.job.marks i ≡ Busy → (after : Row) × (row_at new k ≡ Some after) × StaysAs before after × ((j : ℕ) → mark_at before.job.marks j ≡ Busy → mark_at after.job.marks j ≡ Busy) × Within (answers before.job.marks) (answers after.job.marks)
