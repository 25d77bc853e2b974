-- Links by what stands at their ends: two actors, or an actor and a source or sink.
use Rattle.std.specs.Prelude.{ℕ, List, [], ◌∷◌, ◌⊎◌, slice_index}
use Rattle.sdf_level.specs.View.{LevelView}
use Rattle.sdf_level.specs.declared.link.Link.{Link}
use Rattle.sdf_level.specs.declared.link.Tail.{Tail}
use Rattle.sdf_level.specs.declared.link.Head.{Head}
use Rattle.sdf_level.specs.declared.link.Tail.TheVariants as tail
use Rattle.sdf_level.specs.declared.link.Head.TheVariants as head

-- a link between two actors, with what a firing of the one puts and a firing of the other takes
pub record Inner : Type 0 where
  pub tail : ℕ
  pub produced : ℕ
  pub head : ℕ
  pub consumed : ℕ
  pub delay : ℕ

-- a link with a source or sink: the rate of that, and the actor at the other end with its rate
pub record Outer : Type 0 where
  pub outside : ℕ
  pub actor : ℕ
  pub rate : ℕ

abbrev pub OfInner : (Inner → Type 0) → Tail → Head → ℕ → Type 0
OfInner P (tail.Source s) h d = Unit {0}
OfInner P (tail.Port a p r) (head.Sink t) d = Unit {0}
OfInner P (tail.Port a p r) (head.Port b j c) d = P record { tail = a; produced = r; head = b; consumed = c; delay = d }

abbrev pub OfOuter : (Outer → Type 0) → LevelView → Tail → Head → Type 0
OfOuter P level (tail.Source s) (head.Sink t) = Unit {0}
OfOuter P level (tail.Source s) (head.Port b j c) = P record { outside = slice_index level.sources s; actor = b; rate = c }
OfOuter P level (tail.Port a p r) (head.Sink t) = P record { outside = slice_index level.sinks t; actor = a; rate = r }
OfOuter P level (tail.Port a p r) (head.Port b j c) = Unit {0}

-- holds of each link between two actors
abbrev pub EachInner : (Inner → Type 0) → List Link → Type 0
EachInner P [] = Unit {0}
EachInner P (link ∷ links) = OfInner P link.tail link.head link.delay × EachInner P links

-- holds of each link with a source or sink
abbrev pub EachOuter : (Outer → Type 0) → LevelView → List Link → Type 0
EachOuter P level [] = Unit {0}
EachOuter P level (link ∷ links) = OfOuter P level link.tail link.head × EachOuter P level links

abbrev pub IsInnerWith : (Inner → Type 0) → Tail → Head → ℕ → Type 0
IsInnerWith P (tail.Source s) h d = ⊥
IsInnerWith P (tail.Port a p r) (head.Sink t) d = ⊥
IsInnerWith P (tail.Port a p r) (head.Port b j c) d = P record { tail = a; produced = r; head = b; consumed = c; delay = d }

-- holds of some link between two actors
abbrev pub SomeInner : (Inner → Type 0) → List Link → Type 0
SomeInner P [] = ⊥
SomeInner P (link ∷ links) = IsInnerWith P link.tail link.head link.delay ⊎ SomeInner P links
