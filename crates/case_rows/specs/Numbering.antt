-- How the ports of a level are numbered.
use Rattle.std.specs.Prelude.{◌≡◌, ℕ, ◌+◌, ◌<◌, ◌≤◌, List, [], ◌∷◌, ◌++◌, length, set, slice_index}
use Rattle.sdf_level.specs.declared.TheConstants.{RATE_LIMIT}
use Rattle.sdf_level.specs.declared.link.Link.{Link}
use Rattle.sdf_level.specs.declared.link.Tail.{Tail}
use Rattle.sdf_level.specs.declared.link.Head.{Head}
use Rattle.sdf_level.specs.declared.link.Tail.TheVariants as tail
use Rattle.sdf_level.specs.declared.link.Head.TheVariants as head

-- the tail is the next source, or the next output of its actor
abbrev pub NextTail : List ℕ → List ℕ → List ℕ → List ℕ → Tail → Type 0
NextTail sources outputs sources' outputs' (tail.Source s) = (s ≡ length sources) × ((r : ℕ) × (sources' ≡ sources ++ r ∷ [])) × (outputs' ≡ outputs)
NextTail sources outputs sources' outputs' (tail.Port a p r) = (a < length outputs) × (p ≡ slice_index outputs a) × (outputs' ≡ set outputs a (p + 1)) × (sources' ≡ sources)

-- the head is the next sink, or the next input of its actor
abbrev pub NextHead : List ℕ → List ℕ → List ℕ → List ℕ → Head → Type 0
NextHead sinks inputs sinks' inputs' (head.Sink s) = (s ≡ length sinks) × ((r : ℕ) × (sinks' ≡ sinks ++ r ∷ [])) × (inputs' ≡ inputs)
NextHead sinks inputs sinks' inputs' (head.Port a p r) = (a < length inputs) × (p ≡ slice_index inputs a) × (inputs' ≡ set inputs a (p + 1)) × (sinks' ≡ sinks)

-- each number of the link's ends names a part, one of them is an actor's port, and at a source or sink it has no delay
abbrev pub AreSoundEnds : ℕ → ℕ → ℕ → Tail → Head → ℕ → Type 0
AreSoundEnds actors sources sinks (tail.Source s) (head.Sink t) d = s < 0
AreSoundEnds actors sources sinks (tail.Source s) (head.Port b j c) d = (s < sources) × (b < actors) × (c ≤ RATE_LIMIT) × (d ≡ 0)
AreSoundEnds actors sources sinks (tail.Port a p r) (head.Sink t) d = (t < sinks) × (a < actors) × (r ≤ RATE_LIMIT) × (d ≡ 0)
AreSoundEnds actors sources sinks (tail.Port a p r) (head.Port b j c) d = (a < actors) × (b < actors) × (r ≤ RATE_LIMIT) × (c ≤ RATE_LIMIT)

abbrev pub IsSoundIn : ℕ → ℕ → ℕ → Link → Type 0
IsSoundIn actors sources sinks link = AreSoundEnds actors sources sinks link.tail link.head link.delay
