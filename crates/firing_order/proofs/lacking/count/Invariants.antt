use Rattle.std.proofs.Common.{◌≡◌, ℕ, ◌+◌, slice_index, take}
use Rattle.firing_order.specs.Lacking.{lacking_into}
use Rattle.firing_order.proofs.lacking.count.Given as goal

-- the links so far are counted
abbrev pub invariant-loop-link : goal.invariant-loop-link
invariant-loop-link l = (b : ℕ) → slice_index l.lacking b ≡ slice_index l.fn.lacking b + lacking_into l.fired b (take l.link-index l.links)
