-- Words on lists.
use Rattle.std.specs.Prelude.{ℕ, ◌+◌, ◌==◌, ◌≡◌, ◌<◌, List, [], ◌∷◌, length, map, slice_index_or, if◌then◌else◌, Vec}

-- how often a number stands in a list
abbrev pub occurrences : ℕ → List ℕ → ℕ
occurrences a [] = 0
occurrences a (b ∷ rest) = (if b == a then 1 else 0) + occurrences a rest

-- vectors as lists
abbrev pub lists_of : {B A : Type 0} → List (Vec B A) → List (List B)
lists_of vectors = map (λ v. v.items) vectors

-- so many empty lists
pub record AreEmpty {B : Type 0} (n : ℕ) (lists : List (List B)) : Type 0 where
  pub one_each : length lists ≡ n
  pub each : (k : ℕ) → k < n → slice_index_or lists k [] ≡ []
