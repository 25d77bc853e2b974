-- A journal as plain data.
use Rattle.std.specs.Prelude.{◌≡◌, ℕ, Bool, List, [], slice_index_or}
use Rattle.board_rules.specs.declared.entry.Entry.{Entry}
use Rattle.board_rules.specs.declared.entry.Entry.TheVariants.{Claim, Finish}
use Rattle.board_journal.specs.declared.entry_at.EntryAt.{EntryAt}
use Rattle.board_journal.specs.declared.entry_at.EntryAt.TheVariants as at

-- the paths that were put in, the entries, for how many more room was taken, and whether the entries can be read
pub record JournalView : Type 0 where
  pub paths : List (List ℕ)
  pub entries : List Entry
  pub room : ℕ
  pub readable : Bool

-- nothing was put in
abbrev pub IsEmpty : JournalView → Type 0
IsEmpty j = (j.paths ≡ []) × (j.entries ≡ [])

-- entries that can be read, with the paths and the room
pub record EntriesView : Type 0 where
  pub paths : List (List ℕ)
  pub entries : List Entry
  pub room : ℕ

-- the paths and the entries
pub record HistoryView : Type 0 where
  pub paths : List (List ℕ)
  pub entries : List Entry

-- the path with this number
abbrev pub path_at : List (List ℕ) → ℕ → List ℕ
path_at paths number = slice_index_or paths number []

-- the entry that this tells
abbrev pub entry_told : EntryAt → Entry
entry_told (at.Claim worker path item) = Claim worker path.now item
entry_told (at.Finish worker) = Finish worker
