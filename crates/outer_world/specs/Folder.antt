-- A folder that opens files, and a shelf over one.
use Rattle.std.specs.Prelude.{◌≡◌, ℕ, List, Option, Some}

-- where the bytes of a file are told, what it gives when it was opened is all of them
abbrev pub Gives : Option (List ℕ) → Option (List ℕ) → Type 0
Gives held given = (told : List ℕ) → held ≡ Some told → given ≡ Some told

-- the folder, and how often a load of each name failed
pub record ShelfOverFolder (F : Type 0) : Type 0 where
  pub folder : F
  pub faults : List (List ℕ × ℕ)
