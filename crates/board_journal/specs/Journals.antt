-- The fields of a journal.
use Rattle.std.specs.Prelude.{◌≡◌, ◌+◌, ◌<◌, ◌^◌, IfSome, is_some, length}
use Rattle.board_journal.specs.View.{EntriesView, JournalView}
use Rattle.board_journal.specs.declared.journal.Journal.TheInside.{Inside}

abbrev pub journal_view : Inside → JournalView
journal_view j = record { paths = j.history.paths; entries = j.history.entries; room = j.room; readable = is_some j.kept }

-- what is counted is what is told, the room has numbers left, and what can be read is the same
pub record IsJournal (j : Inside) : Type 0 where
  pub paths_are : j.paths ≡ length j.history.paths
  pub entries_are : j.entries ≡ length j.history.entries
  pub numbered : j.entries + j.room < 2 ^ 64
  pub same : IfSome j.kept (λ (e : EntriesView). e ≡ record { paths = j.history.paths; entries = j.history.entries; room = j.room })
