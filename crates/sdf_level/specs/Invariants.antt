-- What every level keeps.
use Rattle.std.specs.Prelude.{◌≡◌, ℕ, ◌<◌, ◌≤◌, ◌^◌, ◌+◌, Bool, false, ◌==◌, ◌&&◌, List, [], ◌∷◌, length, if◌then◌else◌}
use Rattle.std.specs.List.{AllByRecursion}
use Rattle.sdf_level.specs.View.{LevelView}
use Rattle.sdf_level.specs.declared.link.Link.{Link}
use Rattle.sdf_level.specs.declared.link.Tail.{Tail}
use Rattle.sdf_level.specs.declared.link.Head.{Head}
use Rattle.sdf_level.specs.declared.link.Tail.TheVariants as tail
use Rattle.sdf_level.specs.declared.link.Head.TheVariants as head

-- the greatest rate, in tokens a firing
abbrev pub rate_limit : ℕ
rate_limit = 262144

abbrev pub TailIsThere : LevelView → Tail → Type 0
TailIsThere level (tail.Source s) = s < length level.sources
TailIsThere level (tail.Port a p r) = a < level.actors

abbrev pub HeadIsThere : LevelView → Head → Type 0
HeadIsThere level (head.Sink s) = s < length level.sinks
HeadIsThere level (head.Port a p r) = a < level.actors

-- an end of the link is an actor's port
abbrev pub TouchesActor : Tail → Head → Type 0
TouchesActor (tail.Source s) (head.Sink t) = ⊥
TouchesActor (tail.Source s) (head.Port a p r) = Unit {0}
TouchesActor (tail.Port a p r) (head.Sink t) = Unit {0}
TouchesActor (tail.Port a p r) (head.Port b j c) = Unit {0}

-- only a link between two actors has a delay
abbrev pub HasSoundDelay : Tail → Head → ℕ → Type 0
HasSoundDelay (tail.Source s) h d = d ≡ 0
HasSoundDelay (tail.Port a p r) (head.Sink t) d = d ≡ 0
HasSoundDelay (tail.Port a p r) (head.Port b j c) d = Unit {0}

abbrev pub HasTailRateWithin : ℕ → Tail → Type 0
HasTailRateWithin most (tail.Source s) = Unit {0}
HasTailRateWithin most (tail.Port a p r) = r ≤ most

abbrev pub HasHeadRateWithin : ℕ → Head → Type 0
HasHeadRateWithin most (head.Sink s) = Unit {0}
HasHeadRateWithin most (head.Port a p r) = r ≤ most

-- how many links meet a test
abbrev pub how_many : (Link → Bool) → List Link → ℕ
how_many test [] = 0
how_many test (link ∷ links) = (if test link then 1 else 0) + how_many test links

abbrev pub is_from_source : ℕ → Link → Bool
is_from_source s link = elim link.tail [ tail.Source t ↦ t == s | tail.Port a p r ↦ false ]

abbrev pub is_into_sink : ℕ → Link → Bool
is_into_sink s link = elim link.head [ head.Sink t ↦ t == s | head.Port a p r ↦ false ]

abbrev pub is_from_port : ℕ → ℕ → Link → Bool
is_from_port a p link = elim link.tail [ tail.Source s ↦ false | tail.Port b j r ↦ (b == a) && (j == p) ]

abbrev pub is_into_port : ℕ → ℕ → Link → Bool
is_into_port a p link = elim link.head [ head.Sink s ↦ false | head.Port b j r ↦ (b == a) && (j == p) ]

pub record IsLevel (level : LevelView) : Type 0 where
  -- every number names a part that is there
  pub tails_there : AllByRecursion (λ link. TailIsThere level link.tail) level.links
  pub heads_there : AllByRecursion (λ link. HeadIsThere level link.head) level.links
  -- each source and each sink stands at one link
  pub sources_at_one : (s : ℕ) → s < length level.sources → how_many (is_from_source s) level.links ≡ 1
  pub sinks_at_one : (s : ℕ) → s < length level.sinks → how_many (is_into_sink s) level.links ≡ 1
  -- no link goes from a source to a sink
  pub actors_between : AllByRecursion (λ link. TouchesActor link.tail link.head) level.links
  -- a link with a source or sink has no delay
  pub delays : AllByRecursion (λ link. HasSoundDelay link.tail link.head link.delay) level.links
  -- no two links have the same tail port, and no two have the same head port
  pub outputs_once : (a p : ℕ) → how_many (is_from_port a p) level.links ≤ 1
  pub inputs_once : (a p : ℕ) → how_many (is_into_port a p) level.links ≤ 1
  -- an actor's outputs are numbered from 0 without a gap, and so are its inputs
  pub outputs_without_gap : (a p : ℕ) → 0 < how_many (is_from_port a (p + 1)) level.links → 0 < how_many (is_from_port a p) level.links
  pub inputs_without_gap : (a p : ℕ) → 0 < how_many (is_into_port a (p + 1)) level.links → 0 < how_many (is_into_port a p) level.links
  -- every rate is within its limit
  pub source_rates : AllByRecursion (λ r. r ≤ rate_limit) level.sources
  pub sink_rates : AllByRecursion (λ r. r ≤ rate_limit) level.sinks
  pub tail_rates : AllByRecursion (λ link. HasTailRateWithin rate_limit link.tail) level.links
  pub head_rates : AllByRecursion (λ link. HasHeadRateWithin rate_limit link.head) level.links
  -- and a number of 32 bits tells them apart
  pub few_sources : length level.sources < 2 ^ 32
  pub few_sinks : length level.sinks < 2 ^ 32
  pub few_links : length level.links < 2 ^ 32
