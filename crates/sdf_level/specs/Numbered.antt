-- Links between actors, without the numbers of their ports.
use Rattle.std.specs.Prelude.{ℕ, ◌≤◌, ◌<◌, List, [], ◌∷◌, ◌++◌}
use Rattle.sdf_level.specs.Links.{Inner}
use Rattle.sdf_level.specs.Invariants.{rate_limit}
use Rattle.sdf_level.specs.declared.inner_link.InnerLink.{InnerLink}
use Rattle.sdf_level.specs.declared.link.Link.{Link}
use Rattle.sdf_level.specs.declared.link.Tail.{Tail}
use Rattle.sdf_level.specs.declared.link.Head.{Head}
use Rattle.sdf_level.specs.declared.link.Tail.TheVariants as tail
use Rattle.sdf_level.specs.declared.link.Head.TheVariants as head

-- its actors are below n, and its rates within the limit
pub record IsBetween (n : ℕ) (link : InnerLink) : Type 0 where
  pub tail_there : link.tail < n
  pub head_there : link.head < n
  pub produced : link.produced ≤ rate_limit
  pub consumed : link.consumed ≤ rate_limit

abbrev pub inner_of : InnerLink → Inner
inner_of link = record { tail = link.tail; produced = link.produced; head = link.head; consumed = link.consumed; delay = link.delay }

-- what stands at a link, if that is between two actors
abbrev pub inner_at : Tail → Head → ℕ → List Inner
inner_at (tail.Source s) h d = []
inner_at (tail.Port a p r) (head.Sink t) d = []
inner_at (tail.Port a p r) (head.Port b j c) d = record { tail = a; produced = r; head = b; consumed = c; delay = d } ∷ []

-- the links between two actors, in their order
abbrev pub inner_links : List Link → List Inner
inner_links [] = []
inner_links (link ∷ links) = inner_at link.tail link.head link.delay ++ inner_links links

-- a link with these ends, at ports of which nothing is known
abbrev pub as_link : InnerLink → Link
as_link link = record { tail = tail.Port link.tail 0 link.produced; head = head.Port link.head 0 link.consumed; delay = link.delay }
