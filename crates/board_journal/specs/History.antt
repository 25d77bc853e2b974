-- What a past tells.
use Rattle.std.specs.Prelude.{[], ◌∷◌, ◌++◌}
use Rattle.board_journal.specs.Invariants.{entry_of}
use Rattle.board_journal.specs.View.{HistoryView}
use Rattle.board_journal.specs.declared.history.Past.{Past}
use Rattle.board_journal.specs.declared.history.Past.TheOpen.{Past-F}
use Rattle.board_journal.specs.declared.history.Past.TheOpen.Past-F.{Start, Path, Entry}
use Rattle.board_journal.specs.declared.history.Past.TheFolds.{fold-Past}

-- what was put in last comes last
abbrev pub history_next : Past-F HistoryView → HistoryView
history_next Start = record { paths = []; entries = [] }
history_next (Path past path) = record { paths = past.value.paths ++ path.value ∷ []; entries = past.value.entries }
history_next (Entry past line) = record { paths = past.value.paths; entries = past.value.entries ++ entry_of past.value.paths line ∷ [] }

abbrev pub history_by : Past → HistoryView
history_by = fold-Past HistoryView history_next
