use Rattle.std.proofs.Common.{◌≡◌, ℕ, ◌+◌, slice_index, take}
use Rattle.firing_order.specs.Lacking.{lacking_into}
use Rattle.firing_order.proofs.lacking.uncount.Given as goal

-- the links so far aren't counted
abbrev pub invariant-loop-link : goal.invariant-loop-link
invariant-loop-link l = (b : ℕ) → slice_index l.lacking b + lacking_into l.fired b (take l.link-index l.links) ≡ slice_index l.fn.lacking b
