-- What a lock takes of the state that it keeps, and the entries of one worker.
use Rattle.std.specs.Prelude.{◌≡◌, ℕ, ◌==◌, Bool, if◌then◌else◌, List, [], ◌∷◌, ◌++◌}

-- a state's key, its journal, the places that are lent to each worker, and whether it is over; and the worker of an entry
pub record Meant (S K E P : Type 0) : Type 0 where
  pub key : S → K
  pub journal : S → List E
  pub worker : E → ℕ
  pub lent : S → ℕ → List P
  pub over : S → Bool

-- those of worker n among entries or places, in their order
abbrev pub entries_of : {E : Type 0} → (E → ℕ) → ℕ → List E → List E
entries_of worker n [] = []
entries_of worker n (e ∷ es) = if worker e == n then e ∷ entries_of worker n es else entries_of worker n es

-- ys is xs and more
abbrev pub Begins : {E : Type 0} → List E → List E → Type 0
Begins {E} xs ys = (rest : List E) × (ys ≡ xs ++ rest)
