-- Pointers to the values of a JSON value.
use Rattle.std.specs.Prelude.{ℕ, List, [], ◌∷◌, ◌++◌}

-- one more step, after a `/`
abbrev pub under : List ℕ → List ℕ → List ℕ
under at step = at ++ 47 ∷ step

-- the text of a pointer: the root is `/`
abbrev pub pointer_text : List ℕ → List ℕ
pointer_text [] = 47 ∷ []
pointer_text (b ∷ bs) = b ∷ bs
