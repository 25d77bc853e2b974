-- What is left of the input streams.
use Rattle.std.specs.Prelude.{ℕ, ◌*◌, ℤ, List, [], ◌∷◌, drop}

-- the streams after so many iterations, each of which took `need` tokens of a stream
abbrev pub rest_of : ℕ → List ℕ → List (List ℤ) → List (List ℤ)
rest_of done [] streams = streams
rest_of done (need ∷ needs) [] = []
rest_of done (need ∷ needs) (tokens ∷ streams) = drop (done * need) tokens ∷ rest_of done needs streams
