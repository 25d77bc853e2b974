use Rattle.std.proofs.Common.{ℕ, ◌<◌}
use Rattle.firing_order.specs.Lacking.{IsFree}
use Rattle.firing_order.proofs.lacking.next.Given as goal

abbrev pub invariant-loop-actor : goal.invariant-loop-actor
invariant-loop-actor l = (c : ℕ) → c < l.actor → IsFree l.counts l.fired l.lacking c → ⊥
