-- The least factors that serve the sources and sinks at some first links.
use Rattle.std.specs.Prelude.{◌≡◌, ◌≢◌, ℕ, ◌*◌, ◌≤◌, ◌<◌, List, [], ◌∷◌, ◌++◌, length, slice_index, max}
use Rattle.sdf_level.specs.View.{LevelView}
use Rattle.sdf_level.specs.Invariants.{TailIsThere, HeadIsThere, HasTailRateWithin, HasHeadRateWithin}
use Rattle.sdf_level.specs.Links.{Outer, OfOuter, EachOuter}
use Rattle.sdf_level.specs.Repetition.{AgreesOnZero, HasEnough}
use Rattle.sdf_level.specs.Invariants.{rate_limit}
use Rattle.sdf_level.specs.Balance.{base_entry_limit}
use Rattle.sdf_level.specs.declared.link.Link.{Link}

-- the least m of at least 1 with which m rounds of base firings at this rate move at least that many tokens
pub record IsLeastNeed (outside base rate m : ℕ) : Type 0 where
  pub at_least_one : 1 ≤ m
  pub within : m ≤ rate_limit
  pub enough : outside ≤ m * base * rate
  pub least : (other : ℕ) → 1 ≤ other → outside ≤ other * base * rate → m ≤ other

-- if the actor at the link is of group g, it has enough with m rounds
abbrev pub IsServed : List ℕ → List ℕ → ℕ → ℕ → Outer → Type 0
IsServed base group g m link = slice_index group link.actor ≡ g → HasEnough base m link

-- m is the least of at least 1 with which each actor of group g has enough at these links
pub record IsLeastFor (level : LevelView) (links : List Link) (base group : List ℕ) (g m : ℕ) : Type 0 where
  pub at_least_one : 1 ≤ m
  pub within : m ≤ rate_limit
  pub enough : EachOuter (IsServed base group g m) level links
  pub least : (other : ℕ) → 1 ≤ other → EachOuter (IsServed base group g other) level links → m ≤ other

-- no link has exactly one rate 0, and each group has its least factor
pub record AreServed (level : LevelView) (links : List Link) (base group factors : List ℕ) : Type 0 where
  pub agree : EachOuter AgreesOnZero level links
  pub one_each : length factors ≡ level.actors
  pub each : (g : ℕ) → g < level.actors → IsLeastFor level links base group g (slice_index factors g)

-- with one link more, these are the factors
abbrev pub Serves : LevelView → Link → List ℕ → List ℕ → List ℕ → List ℕ → Type 0
Serves level link base group factors factors' = (links : List Link) → AreServed level links base group factors → AreServed level (links ++ link ∷ []) base group factors'

-- the link has a source or sink, and exactly one rate 0
abbrev pub Disagrees : LevelView → Link → Type 0
Disagrees level link = OfOuter AgreesOnZero level link.tail link.head → ⊥

-- the factor of group g is raised to at least need
pub record IsRaised (factors factors' : List ℕ) (g need : ℕ) : Type 0 where
  pub here : slice_index factors' g ≡ max (slice_index factors g) need
  pub others : (h : ℕ) → h ≢ g → slice_index factors' h ≡ slice_index factors h

-- the group of the actor at the link has what the link needs
pub record IsServedOnce (base group factors factors' : List ℕ) (link : Outer) : Type 0 where
  pub agrees : AgreesOnZero link
  pub need : ℕ
  pub is_need : IsLeastNeed link.outside (slice_index base link.actor) link.rate need
  pub raised : IsRaised factors factors' (slice_index group link.actor) need

-- what is known of a link of the level
pub record IsSound (level : LevelView) (link : Link) : Type 0 where
  pub tail_there : TailIsThere level link.tail
  pub head_there : HeadIsThere level link.head
  pub tail_rate : HasTailRateWithin rate_limit link.tail
  pub head_rate : HasHeadRateWithin rate_limit link.head

-- n entries from 1 to the limit
pub record HasBase (n : ℕ) (base : List ℕ) : Type 0 where
  pub one_each : length base ≡ n
  pub at_least_one : (a : ℕ) → a < n → 1 ≤ slice_index base a
  pub within : (a : ℕ) → a < n → slice_index base a ≤ base_entry_limit

-- n numbers of groups below n
pub record HasGroups (n : ℕ) (group : List ℕ) : Type 0 where
  pub one_each : length group ≡ n
  pub below : (a : ℕ) → a < n → slice_index group a < n
