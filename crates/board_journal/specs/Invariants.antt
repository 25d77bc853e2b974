-- The fields of entries that can be read.
use Rattle.std.specs.Prelude.{ℕ, ◌-◌, ◌<◌, ◌≤◌, List, map, length, vec_len, vec_capacity}
use Rattle.std.specs.List.{All}
use Rattle.board_rules.specs.declared.entry.Entry.{Entry}
use Rattle.board_rules.specs.declared.entry.Entry.TheVariants as entry
use Rattle.board_journal.specs.View.{EntriesView, path_at}
use Rattle.board_journal.specs.declared.kept.Entries.TheInside.{Inside}
use Rattle.board_journal.specs.declared.line.Line.{Line}
use Rattle.board_journal.specs.declared.line.Line.TheVariants.{Claim, Finish}

abbrev pub entry_of : List (List ℕ) → Line → Entry
entry_of paths (Claim worker path item) = entry.Claim worker (path_at paths path) item
entry_of paths (Finish worker) = entry.Finish worker

abbrev pub entries_of : List (List ℕ) → List Line → List Entry
entries_of paths lines = map (entry_of paths) lines

abbrev pub view_of : Inside → EntriesView
view_of e = record { paths = e.paths.items; entries = entries_of e.paths.items e.lines.items; room = e.room }

-- the path of a claim is there
abbrev pub NamesPath : List (List ℕ) → Line → Type 0
NamesPath paths (Claim worker path item) = path < length paths
NamesPath paths (Finish worker) = Unit {0}

abbrev pub NamePaths : List (List ℕ) → List Line → Type 0
NamePaths paths lines = All (NamesPath paths) lines

-- the paths of claims are there, and the room that was taken
pub record AreEntries (e : Inside) : Type 0 where
  pub named : NamePaths e.paths.items e.lines.items
  pub has_room : e.room ≤ vec_capacity e.lines - vec_len e.lines
