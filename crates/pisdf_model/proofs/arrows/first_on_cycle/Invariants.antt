use Rattle.std.proofs.Common.{◌≡◌, ℕ, ◌<◌, false}
use Rattle.pisdf_model.specs.Arrows.{leads}
use Rattle.pisdf_model.proofs.arrows.first_on_cycle.Given as goal

abbrev pub invariant-loop-place : goal.invariant-loop-place
invariant-loop-place l = (k : ℕ) → k < l.place → leads l.arrows k k ≡ false
