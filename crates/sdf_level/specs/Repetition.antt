-- The repetition vector: the base vector, each component of it times the least factor that serves its sources and sinks.
use Rattle.std.specs.Prelude.{◌≡◌, ℕ, ◌+◌, ◌*◌, ◌≤◌, ◌<◌, ◌↔◌, List, length, slice_index, take}
use Rattle.sdf_level.specs.View.{LevelView}
use Rattle.sdf_level.specs.Links.{Outer, EachOuter}
use Rattle.sdf_level.specs.Balance.{IsBase}
use Rattle.sdf_level.specs.Components.{AreConnected}

-- not exactly one of the two rates is 0
abbrev pub AgreesOnZero : Outer → Type 0
AgreesOnZero link = (link.outside ≡ 0) ↔ (link.rate ≡ 0)

-- in all its firings, m times its entry of the base vector, the actor puts or takes at least the rate of the source or sink
abbrev pub HasEnough : List ℕ → ℕ → Outer → Type 0
HasEnough base m link = link.outside ≤ m * slice_index base link.actor * link.rate

-- m is a factor for the component of this actor
pub record IsFactor (level : LevelView) (base : List ℕ) (a m : ℕ) : Type 0 where
  pub at_least_one : 1 ≤ m
  pub enough : EachOuter (λ link. AreConnected level.links a link.actor → HasEnough base m link) level level.links

pub record IsLeastFactor (level : LevelView) (base : List ℕ) (a m : ℕ) : Type 0 where
  pub factor : IsFactor level base a m
  pub least : (other : ℕ) → IsFactor level base a other → m ≤ other

-- the entry of the base vector times the least factor of the actor's component
pub record IsMultiplied (level : LevelView) (base : List ℕ) (a entry : ℕ) : Type 0 where
  pub factor : ℕ
  pub least : IsLeastFactor level base a factor
  pub product : entry ≡ factor * slice_index base a

-- each component of the base vector multiplied
pub record IsBaseMultiplied (level : LevelView) (base q : List ℕ) : Type 0 where
  pub one_each : length q ≡ level.actors
  pub entries : (a : ℕ) → a < level.actors → IsMultiplied level base a (slice_index q a)

-- the repetition vector. There is none without a base vector, or with exactly one rate 0 at a source or sink
pub record IsRepetition (level : LevelView) (q : List ℕ) : Type 0 where
  pub base : List ℕ
  pub is_base : IsBase level base
  pub agree : EachOuter AgreesOnZero level level.links
  pub multiplied : IsBaseMultiplied level base q

abbrev pub HasNoRepetition : LevelView → Type 0
HasNoRepetition level = (q : List ℕ) → IsRepetition level q → ⊥

-- the first link with a source or sink that has exactly one rate 0: those before it agree, and with it not all do
pub record IsFirstMismatch (level : LevelView) (link : ℕ) : Type 0 where
  pub before : EachOuter AgreesOnZero level (take link level.links)
  pub here : EachOuter AgreesOnZero level (take (link + 1) level.links) → ⊥
