-- What the records of a token file say: a list of tokens for each name, or the first fault.
use Rattle.std.specs.Prelude.{ℕ, ◌+◌, if◌then◌else◌, not, ℤ, Bool, List, [], ◌∷◌, ◌++◌, map, find, Option, Some, None, option_map, is_none, unwrap_or, Result, Ok, Err}
use Rattle.std.specs.List.{list_any, filter_map, position_from}
use Rattle.std.specs.Option.{option_or}
use Rattle.std.specs.Str.{bytes_eq}
use Rattle.token_text.specs.Token.{token_of}
use Rattle.token_text.specs.Records.{Record, name_of, records_of, token_fields}
use Rattle.token_text.specs.declared.fault.TokenFault.{TokenFault}
use Rattle.token_text.specs.declared.fault.TokenFault.TheVariants.{Repeated, Name, Number}

abbrev pub is_among : List (List ℕ) → List ℕ → Bool
is_among names name = list_any (λ other. bytes_eq other name) names

-- the tokens of a record, each of whose fields after the name is one
abbrev pub tokens_of : Record → List ℤ
tokens_of fields = filter_map token_of (token_fields fields)

abbrev pub is_no_token : List ℕ → Bool
is_no_token field = is_none (token_of field)

-- the first field of a row that is no token, where there is one: the name is field 1
abbrev pub number_fault : ℕ → Record → Option TokenFault
number_fault row fields = option_map (λ field. Number row field) (position_from is_no_token 2 (token_fields fields))

-- what is wrong with the fields of a row, where the rows before it have the names `earlier`
abbrev pub fault_at : List (List ℕ) → List (List ℕ) → ℕ → Record → Option TokenFault
fault_at names earlier row fields =
    if not (is_among names (name_of fields)) then Some (Name row)
    else if is_among earlier (name_of fields) then Some (Repeated row)
    else number_fault row fields

-- the first fault of the records from a row on
unfoldable pub first_fault : List (List ℕ) → List (List ℕ) → ℕ → List Record → Option TokenFault
first_fault names earlier row [] = None
first_fault names earlier row (fields ∷ rest) =
    option_or (fault_at names earlier row fields) (first_fault names (earlier ++ name_of fields ∷ []) (row + 1) rest)

-- the tokens of the first record of a name, where there is one
abbrev pub tokens_named : List Record → List ℕ → Option (List ℤ)
tokens_named rows name = option_map tokens_of (find (λ fields. bytes_eq (name_of fields) name) rows)

-- what each name has once a row of this name gave its tokens
abbrev pub with_tokens : (List ℕ → Option (List ℤ)) → List ℕ → List ℤ → List ℕ → Option (List ℤ)
with_tokens before name tokens other = if bytes_eq other name then Some tokens else before other

-- a list for each name, empty where no record has it
unfoldable pub streams_of : List (List ℕ) → List Record → List (List ℤ)
streams_of names rows = map (λ name. unwrap_or (tokens_named rows name) []) names

abbrev pub fault_or : Option TokenFault → List (List ℤ) → Result (List (List ℤ)) TokenFault
fault_or (Some fault) streams = Err fault
fault_or None streams = Ok streams

-- a token file's bytes, read for these names: the first fault by row, counted from 1, and otherwise the streams
abbrev pub read_of : List ℕ → List (List ℕ) → Result (List (List ℤ)) TokenFault
read_of bytes names = fault_or (first_fault names [] 1 (records_of bytes)) (streams_of names (records_of bytes))
