-- What the rows of jobs are made of.
use Rattle.std.specs.Prelude.{ℕ, List, [], ◌++◌, codes, slice_index_or}
use Rattle.std.specs.Fmt.{decimal}

-- the name with a number, none where there is no such name
abbrev pub name_at : List (List ℕ) → ℕ → List ℕ
name_at names n = slice_index_or names n []

-- a firing by its actor's name and its own number
abbrev pub firing_name : List ℕ → ℕ → List ℕ
firing_name actor turn = actor ++ (codes ":" ++ decimal turn)
