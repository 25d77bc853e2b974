-- Runs over tokens that are images of other tokens.
use Rattle.std.specs.Prelude.{ℕ, List, map, Result, Ok, Err}
use Rattle.sdf_level.specs.Run.{Fire}
use Rattle.sdf_level.specs.LevelRun.{Ended}
use Rattle.sdf_level.specs.Told.{Made}

-- the image of each token
abbrev pub image : {S T : Type 0} → (S → T) → List (List S) → List (List T)
image f lists = map (λ list. map f list) lists

abbrev pub image_made : {S T : Type 0} → (S → T) → Made S → Made T
image_made f made a k = image f (made a k)

-- of outputs or lines; a fault stays
abbrev pub image_answer : {S T F : Type 0} → (S → T) → Result (List (List S)) F → Result (List (List T)) F
image_answer f (Ok lists) = Ok (image f lists)
image_answer f (Err fault) = Err fault

abbrev pub image_end : {S T F : Type 0} → (S → T) → Result (Ended S) F → Result (Ended T) F
image_end f (Ok end) = Ok record { outs = image f end.outs; left = image f end.left }
image_end f (Err fault) = Err fault

-- of the images of its inputs, each firing gives the image of its answer
abbrev pub Respects : {S T F : Type 0} → (S → T) → Fire S F → Fire T F → Type 0
Respects {S} {T} {F} f fire other = (b k : ℕ) (ins : List (List S)) (answer : Result (List (List S)) F) → fire b k ins answer → other b k (image f ins) (image_answer f answer)
