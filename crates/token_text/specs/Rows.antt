-- The rows that a run writes: fields joined by commas and ended by a line feed. Numbers are decimal.
use Rattle.std.specs.Prelude.{ℕ, ℤ, List, [], ◌∷◌, ◌++◌, map, codes}
use Rattle.std.specs.Fmt.{decimal, signed_decimal}
use Rattle.std.specs.List.{join_with_byte}

abbrev pub comma : ℕ
comma = 44

abbrev pub line_feed : ℕ
line_feed = 10

abbrev pub row_of : List (List ℕ) → List ℕ
row_of fields = join_with_byte comma fields ++ line_feed ∷ []

-- the tokens that an iteration put at the output of a name
unfoldable pub tokens_text : ℕ → List ℕ → List ℤ → List ℕ
tokens_text iteration name tokens = row_of (codes "tokens" ∷ decimal iteration ∷ name ∷ map signed_decimal tokens)

-- the value that an iteration gave the chosen parameter of a name, at the path of the graph that it stands in
unfoldable pub param_text : ℕ → List ℕ → List ℕ → ℤ → List ℕ
param_text iteration path name value =
    row_of (codes "param" ∷ decimal iteration ∷ path ∷ name ∷ signed_decimal value ∷ [])
