-- The links at each actor, as lists by actor.
use Rattle.std.specs.Prelude.{◌≡◌, ℕ, ◌<◌, Bool, ◌==◌, ◌||◌, List, [], ◌∷◌, ◌++◌, length, set, slice_index_or}
use Rattle.std.specs.List.{filter}
use Rattle.sdf_level.specs.declared.inner_link.InnerLink.{InnerLink}

-- the actor is an end of the link
abbrev pub is_at : ℕ → InnerLink → Bool
is_at a link = (link.tail == a) || (link.head == a)

-- a list for each actor, the links from it and into it
pub record AreAt (n : ℕ) (links : List InnerLink) (lists : List (List InnerLink)) : Type 0 where
  pub one_each : length lists ≡ n
  pub each : (a : ℕ) → a < n → slice_index_or lists a [] ≡ filter (is_at a) links

-- the actor's list has the link at its end
abbrev pub IsPushed : List (List InnerLink) → List (List InnerLink) → ℕ → InnerLink → Type 0
IsPushed lists lists' a link = lists' ≡ set lists a (slice_index_or lists a [] ++ link ∷ [])

-- with one link more, these are the lists
abbrev pub Adds : ℕ → InnerLink → List (List InnerLink) → List (List InnerLink) → Type 0
Adds n link lists lists' = (links : List InnerLink) → AreAt n links lists → AreAt n (links ++ link ∷ []) lists'
