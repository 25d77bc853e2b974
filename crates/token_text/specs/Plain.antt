-- How far a text was read that has no quotes: each record is then a line, and its fields stand between commas.
use Rattle.std.specs.Prelude.{◌≡◌, ℕ, ◌==◌, ◌||◌, ℤ, Bool, false, List, [], ◌∷◌, ◌++◌, map, drop, Option, Some, None}
use Rattle.std.specs.List.{between}
use Rattle.csv.specs.Machine.{Read, ends_at_end, next_record}
use Rattle.csv.specs.Reading.{default_config}
use Rattle.csv.specs.declared.parser.State.{State}
use Rattle.csv.specs.declared.parser.State.TheVariants as st
use Rattle.token_text.specs.Records.{Record, name_of}
use Rattle.token_text.specs.Streams.{fault_at, tokens_named}
use Rattle.token_text.specs.Token.{token_of}

-- the next record of a text, read from a place between records, from the start of a field, and within a field
abbrev pub record_at : List ℕ → ℕ → Option Read
record_at text at = next_record default_config st.StartRecord [] [] (drop at text)

abbrev pub first_at : List (List ℕ) → List ℕ → ℕ → Option Read
first_at fields text at = next_record default_config st.StartField fields [] (drop at text)

abbrev pub field_at : List (List ℕ) → List ℕ → List ℕ → ℕ → Option Read
field_at fields field text at = next_record default_config st.InField fields field (drop at text)

-- bytes that end a line, and that end a field or begin a quoted one
abbrev pub ends_line : ℕ → Bool
ends_line byte = (byte == 10) || (byte == 13)

abbrev pub ends_field : ℕ → Bool
ends_field byte = (byte == 44) || (byte == 34) || ends_line byte

-- a record whose last field ends at one place is read up to another
abbrev pub EndsRecord : List ℕ → ℕ → ℕ → Type 0
EndsRecord text at end = (state : State) × (ends_at_end state ≡ false) × ((fields : List (List ℕ)) → (field : List ℕ) → field_at fields field text at ≡ Some (fields ++ (field ∷ []), state, drop end text))

-- a row without quotes, each of whose fields after the name is a token
pub record IsRow (text : List ℕ) (from name_end : ℕ) (tokens : List ℤ) (end : ℕ) : Type 0 where
  pub fields : List (List ℕ)
  pub state : State
  pub between_records : ends_at_end state ≡ false
  pub read : record_at text from ≡ Some (between from name_end text ∷ fields, state, drop end text)
  pub are : map token_of fields ≡ map Some tokens

-- a row that was taken in, with the streams after it
pub record IsTaken (names : List (List ℕ)) (text : List ℕ) (from : ℕ) (before : List Record) (streams : List (Option (List ℤ))) (end : ℕ) : Type 0 where
  pub row : Record
  pub state : State
  pub between_records : ends_at_end state ≡ false
  pub read : record_at text from ≡ Some (row, state, drop end text)
  pub fine : (n : ℕ) → fault_at names (map name_of before) n row ≡ None
  pub given : streams ≡ map (tokens_named (before ++ row ∷ [])) names
