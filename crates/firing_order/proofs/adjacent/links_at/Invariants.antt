use Rattle.std.proofs.Common.{take}
use Rattle.sdf_level.specs.Lists.{lists_of}
use Rattle.firing_order.specs.Adjacent.{AreAt}
use Rattle.firing_order.proofs.adjacent.links_at.Given as goal

-- the lists of the links so far
abbrev pub invariant-loop-link : goal.invariant-loop-link
invariant-loop-link l = AreAt l.actors (take l.link-index l.links) (lists_of l.lists.items)
