use Rattle.std.proofs.Common.{ℕ, ◌<◌}
use Rattle.level_laws.specs.Unfolded.{IsServed}
use Rattle.unfold_rates.proofs.serving.each_is_served.Given as goal

abbrev pub invariant-loop-actor : goal.invariant-loop-actor
invariant-loop-actor l = (a : ℕ) → a < l.actor → IsServed l.level a
