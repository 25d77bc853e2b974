use Rattle.std.proofs.Common.{◌≡◌, ℕ, ◌<◌, false, ◌&&◌, get_or}
use Rattle.pisdf_model.specs.ParamOrder.{is_chosen}
use Rattle.pisdf_model.proofs.ordering.any_chosen.Given as goal

abbrev pub invariant-loop-place : goal.invariant-loop-place
invariant-loop-place l = (k : ℕ) → k < l.place → (is_chosen l.graph k && get_or l.marks k false) ≡ false
