-- What is known of the ends of a link.
use Rattle.std.specs.Prelude.{ℕ, ℤ, ◌<◌, List, length}
use Rattle.sdf_level.specs.declared.link.Tail.{Tail}
use Rattle.sdf_level.specs.declared.link.Head.{Head}
use Rattle.sdf_level.specs.declared.link.Tail.TheVariants as tail
use Rattle.sdf_level.specs.declared.link.Head.TheVariants as head

-- its source has tokens, which a number of 32 bits counts
abbrev pub HasSource : List (List ℤ) → Tail → Type 0
HasSource sources (tail.Source s) = s < length sources
HasSource sources (tail.Port a p r) = Unit {0}

-- the actor at its head has a count
abbrev pub HasCount : List ℕ → Head → Type 0
HasCount q (head.Sink t) = Unit {0}
HasCount q (head.Port b j c) = b < length q
