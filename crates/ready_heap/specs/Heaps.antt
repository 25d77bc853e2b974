-- Which numbers are in.
use Rattle.std.specs.Prelude.{◌≡◌, ℕ, Bool, true, false, List, slice_index_or}

abbrev pub Holds : List Bool → ℕ → Type 0
Holds held n = slice_index_or held n false ≡ true
