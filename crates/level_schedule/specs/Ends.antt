-- What is known of the links of a level beside its counts of firings.
use Rattle.std.specs.Prelude.{ℕ, ◌<◌, List, length}
use Rattle.sdf_level.specs.Invariants.{rate_limit, HasTailRateWithin, HasHeadRateWithin}
use Rattle.sdf_level.specs.declared.link.Link.{Link}
use Rattle.sdf_level.specs.declared.link.Tail.{Tail}
use Rattle.sdf_level.specs.declared.link.Head.{Head}
use Rattle.sdf_level.specs.declared.link.Tail.TheVariants as tail
use Rattle.sdf_level.specs.declared.link.Head.TheVariants as head

-- an actor there has a count
abbrev pub TailHasCount : List ℕ → Tail → Type 0
TailHasCount q (tail.Source s) = Unit {0}
TailHasCount q (tail.Port a p r) = a < length q

abbrev pub HeadHasCount : List ℕ → Head → Type 0
HeadHasCount q (head.Sink t) = Unit {0}
HeadHasCount q (head.Port b j c) = b < length q

-- actors with counts, and rates within the limit
pub record HasEnds (q : List ℕ) (link : Link) : Type 0 where
  pub tail_there : TailHasCount q link.tail
  pub head_there : HeadHasCount q link.head
  pub tail_rate : HasTailRateWithin rate_limit link.tail
  pub head_rate : HasHeadRateWithin rate_limit link.head
