-- How jobs are closed after a finish.
use Rattle.std.specs.Prelude.{◌≡◌, ℕ, Option, Some, None, Result}
use Rattle.job_preparing.specs.declared.handing.JobGiven.{JobGiven}
use Rattle.pisdf_meaning.specs.declared.refusal.Refusal.{Refusal}
use Rattle.firing_board.specs.Table.Closing.{Closes, RowsStay}
use Rattle.firing_board.specs.declared.state.Core.{Core}

-- the end of the top job, where it is closed, or what was there before
abbrev pub latest : Option (Result JobGiven Refusal) → Option (Result JobGiven Refusal) → Option (Result JobGiven Refusal)
latest None before = before
latest (Some end) before = Some end

-- nothing but the open jobs and the end changes
pub record KeepsJournal (old new : Core) : Type 0 where
  pub running_is : new.running ≡ old.running
  pub numbers_are : new.numbers ≡ old.numbers
  pub journal_is : new.journal ≡ old.journal
  pub stay : RowsStay old.table new.table

-- jobs are closed from this row up, and the end of the top job is kept where it is closed
pub record ClosesOn (old : Core) (k : ℕ) (new : Core) : Type 0 where
  pub end : Option (Result JobGiven Refusal)
  pub closes : Closes old.table k new.table end
  pub end_is : new.end ≡ latest end old.end
