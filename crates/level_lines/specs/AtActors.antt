-- The links at the actors of a level, as lists of their numbers.
use Rattle.std.specs.Prelude.{◌≡◌, ℕ, ◌+◌, ◌<◌, Bool, false, ◌==◌, List, [], ◌∷◌, ◌++◌, length, slice_index_or, Option, Some, None, if◌then◌else◌}
use Rattle.sdf_level.specs.View.{LevelView}
use Rattle.sdf_level.specs.Run.{is_into_actor}
use Rattle.sdf_level.specs.declared.link.Link.{Link}
use Rattle.sdf_level.specs.declared.link.Tail.TheVariants as tail
use Rattle.sdf_level.specs.declared.link.Head.TheVariants as head
use Rattle.level_lines.specs.declared.ports.Side.{Side}
use Rattle.level_lines.specs.declared.ports.Side.TheVariants as side

-- what stands for an element that is not there
abbrev pub no_link : Link
no_link = record { tail = tail.Source 0; head = head.Sink 0; delay = 0 }

-- for each actor the links into it and those from it
pub record PortsView : Type 0 where
  pub into : List (List ℕ)
  pub from : List (List ℕ)

abbrev pub is_from_actor : ℕ → Link → Bool
is_from_actor b link = elim link.tail [ tail.Source s ↦ false | tail.Port a p r ↦ a == b ]

-- the places of the links that meet a test, the first link having this place
abbrev pub places : (Link → Bool) → ℕ → List Link → List ℕ
places test i [] = []
places test i (link ∷ links) = (if test link then i ∷ [] else []) ++ places test (i + 1) links

pub record ArePorts (level : LevelView) (ports : PortsView) : Type 0 where
  pub into_each : length ports.into ≡ level.actors
  pub from_each : length ports.from ≡ level.actors
  pub into : (b : ℕ) → b < level.actors → slice_index_or ports.into b [] ≡ places (is_into_actor b) 0 level.links
  pub from : (b : ℕ) → b < level.actors → slice_index_or ports.from b [] ≡ places (is_from_actor b) 0 level.links

-- ---- how the lists are made

abbrev pub stands_at : Side → ℕ → Link → Bool
stands_at side.Tail b link = is_from_actor b link
stands_at side.Head b link = is_into_actor b link

abbrev pub is_of : ℕ → Option ℕ → Bool
is_of b (Some a) = a == b
is_of b None = false

-- for each of n actors the places of the links that have it at this end
pub record AreListed (n : ℕ) (end : Side) (links : List Link) (lists : List (List ℕ)) : Type 0 where
  pub one_each : length lists ≡ n
  pub each : (b : ℕ) → b < n → slice_index_or lists b [] ≡ places (stands_at end b) 0 links

-- the number stands at the end of the list of this actor, if there is one
pub record IsListed (lists lists' : List (List ℕ)) (actor : Option ℕ) (number : ℕ) : Type 0 where
  pub one_each : length lists' ≡ length lists
  pub each : (b : ℕ) → b < length lists → slice_index_or lists' b [] ≡ slice_index_or lists b [] ++ (if is_of b actor then number ∷ [] else [])
