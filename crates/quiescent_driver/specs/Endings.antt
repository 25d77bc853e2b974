-- How an iteration ends.
use Rattle.std.specs.Prelude.{◌≡◌, true, List, Result, Ok, Err}
use Rattle.pisdf_meaning.specs.Run.{IterationEnds, IterationGives}
use Rattle.pisdf_meaning.specs.declared.outcome.Iteration.{Iteration}
use Rattle.pisdf_meaning.specs.declared.refusal.Refusal.{Refusal}
use Rattle.board_journal.specs.View.{JournalView}
use Rattle.board_rules.specs.Entries.{Step}
use Rattle.board_rules.specs.Keys.{Key}
use Rattle.board_rules.specs.Legal.{AreLegal, HasEnded, journal_of}
use Rattle.board_rules.specs.declared.entry.Entry.{Entry}
use Rattle.firing_board.specs.declared.ending.BoardEnd.{BoardEnd}
use Rattle.firing_board.specs.declared.ending.BoardEnd.TheVariants as ends
use Rattle.quiescent_driver.specs.declared.fault.IterationFault.{IterationFault}
use Rattle.quiescent_driver.specs.declared.fault.IterationFault.TheVariants.{Refused, Memory}

-- this holds of the refusal, if it is one
abbrev pub IfRefused : (Refusal → Type 0) → IterationFault → Type 0
IfRefused P (Refused refusal journal) = P refusal
IfRefused P Memory = Unit {0}

-- the entries are a legal journal that has ended
pub record IsWhole (key : Key) (entries : List Entry) : Type 0 where
  pub taken : List Step
  pub legal : AreLegal key taken
  pub ended : HasEnded key taken
  pub entries_are : journal_of key taken ≡ entries

-- so is the journal of an iteration that is done or refused
abbrev pub HasWholeJournal : Key → Result (Iteration × JournalView) IterationFault → Type 0
HasWholeJournal key (Ok (iteration, journal)) = IsWhole key journal.entries
HasWholeJournal key (Err (Refused refusal journal)) = IsWhole key journal.entries
HasWholeJournal key (Err Memory) = Unit {0}

-- the journal of an iteration that is done or refused can be read
abbrev pub HasReadableJournal : Result (Iteration × JournalView) IterationFault → Type 0
HasReadableJournal (Ok (iteration, journal)) = journal.readable ≡ true
HasReadableJournal (Err (Refused refusal journal)) = journal.readable ≡ true
HasReadableJournal (Err Memory) = Unit {0}

-- a board with this key ends with what one thread gets of the iteration, or with its refusal, and with such a journal; or starved
abbrev pub EndsWith : Key → BoardEnd → Type 0
EndsWith key (ends.Done iteration delays journal) = IterationGives key.graphs key.ins key.delays iteration delays.lists × IsWhole key journal.entries
EndsWith key (ends.Refused refusal journal) = IterationEnds key.graphs key.ins key.delays (Err refusal) × IsWhole key journal.entries
EndsWith key ends.Starved = Unit {0}
