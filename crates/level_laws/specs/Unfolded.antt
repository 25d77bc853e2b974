-- The level of several iterations at once, which has the rates of its sources and sinks multiplied.
use Rattle.std.specs.Prelude.{◌≡◌, ℕ, zero, suc, ◌*◌, ◌<◌, ◌⊎◌, List, [], ◌∷◌, ◌++◌, map, slice_index}
use Rattle.sdf_level.specs.View.{LevelView}
use Rattle.sdf_level.specs.Invariants.{IsLevel}
use Rattle.sdf_level.specs.Links.{Outer, EachOuter}
use Rattle.sdf_level.specs.Components.{AreConnected}
use Rattle.sdf_level.specs.Repetition.{IsRepetition}
use Rattle.sdf_level.specs.declared.link.Link.{Link}
use Rattle.sdf_level.specs.declared.link.Tail.{Tail}
use Rattle.sdf_level.specs.declared.link.Head.{Head}
use Rattle.sdf_level.specs.declared.link.Tail.TheVariants as tail
use Rattle.sdf_level.specs.declared.link.Head.TheVariants as head

-- so many times each number
abbrev pub multiplied : ℕ → List ℕ → List ℕ
multiplied times numbers = map (λ n. times * n) numbers

-- the level of so many iterations: each source and each sink has so many times its rate
abbrev pub unfolded : ℕ → LevelView → LevelView
unfolded times level = record {
  actors = level.actors;
  sources = multiplied times level.sources;
  sinks = multiplied times level.sinks;
  links = level.links;
}

-- a list of firings so many times, one after another
abbrev pub copies : ℕ → List ℕ → List ℕ
copies zero list = []
copies (suc n) list = list ++ copies n list

abbrev pub IsOuterWith : (Outer → Type 0) → LevelView → Tail → Head → Type 0
IsOuterWith P level (tail.Source s) (head.Sink t) = ⊥
IsOuterWith P level (tail.Source s) (head.Port b j c) = P record { outside = slice_index level.sources s; actor = b; rate = c }
IsOuterWith P level (tail.Port a p r) (head.Sink t) = P record { outside = slice_index level.sinks t; actor = a; rate = r }
IsOuterWith P level (tail.Port a p r) (head.Port b j c) = ⊥

-- holds of some link with a source or sink
abbrev pub SomeOuter : (Outer → Type 0) → LevelView → List Link → Type 0
SomeOuter P level [] = ⊥
SomeOuter P level (link ∷ links) = IsOuterWith P level link.tail link.head ⊎ SomeOuter P level links

-- the link has a positive rate, and its actor is of the component of this actor
pub record Serves (links : List Link) (a : ℕ) (link : Outer) : Type 0 where
  pub rate : 0 < link.rate
  pub connected : AreConnected links a link.actor

-- the component of this actor has a source or sink of positive rate
abbrev pub IsServed : LevelView → ℕ → Type 0
IsServed level a = SomeOuter (Serves level.links a) level level.links

-- if its rate is positive, all firings of its actor move just as many tokens as the rate of the source or sink
abbrev pub IsMetExactly : List ℕ → Outer → Type 0
IsMetExactly q link = 0 < link.rate → slice_index q link.actor * link.rate ≡ link.outside

-- these are the counts of one iteration, in which each component takes and gives just what its sources and sinks hold
pub record IsExactLevel (level : LevelView) (q : List ℕ) : Type 0 where
  pub is_level : IsLevel level
  pub repetition : IsRepetition level q
  pub served : (a : ℕ) → a < level.actors → IsServed level a
  pub met : EachOuter (IsMetExactly q) level level.links
