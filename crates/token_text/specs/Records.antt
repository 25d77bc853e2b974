-- The records of a token file.
use Rattle.std.specs.Prelude.{◌≡◌, ℕ, List, [], drop, slice_index_or}
use Rattle.csv.specs.Reading.{AreRecords, default_config, records, strip_bom}
use Rattle.csv.specs.declared.error.ErrorKind.{ErrorKind}
use Rattle.csv.specs.declared.error.ErrorKind.TheVariants as kind
use Rattle.csv.specs.declared.parser.State.TheVariants as st

-- the fields of a record, which are bytes
abbrev pub Record : Type 0
Record = List (List ℕ)

-- every record of a file's bytes after a byte order mark at their start is dropped: comma, double quotes, no header row, no trimming
unfoldable pub records_of : List ℕ → List Record
records_of bytes = records default_config (strip_bom bytes)

-- these records, and no other list of records, are all those that reading the bytes to their end gives
pub record AreAllRecords (bytes : List ℕ) (rows : List Record) : Type 0 where
  pub all : AreRecords default_config st.StartRecord (strip_bom bytes) rows
  pub only : (other : List Record) → AreRecords default_config st.StartRecord (strip_bom bytes) other → other ≡ rows

-- the name of the input that a record is for: its first field
abbrev pub name_of : Record → List ℕ
name_of fields = slice_index_or fields 0 []

abbrev pub token_fields : Record → List (List ℕ)
token_fields fields = drop 1 fields

-- the reader underneath failed, or memory ran out
abbrev pub IsWant : ErrorKind → Type 0
IsWant (kind.Io error) = Unit {0}
IsWant kind.OutOfMemory = Unit {0}
IsWant (kind.UnequalLengths position expected len) = ⊥
IsWant (kind.Utf8 position error) = ⊥
IsWant (kind.Serialize text) = ⊥
IsWant (kind.Deserialize position error) = ⊥
