use Rattle.std.proofs.Common.{◌≡◌, take}
use Rattle.level_laws.specs.Unfolded.{multiplied}
use Rattle.unfold_rates.proofs.counting.multiplied.Given as goal

abbrev pub invariant-loop-actor : goal.invariant-loop-actor
invariant-loop-actor l = l.products.items ≡ multiplied l.times (take l.actor l.counts)
