use Rattle.std.proofs.Common.{◌≤◌, All, take, get_or}
use Rattle.pisdf_model.proofs.components.highest.Given as goal

abbrev pub invariant-loop-place : goal.invariant-loop-place
invariant-loop-place l = All (λ w. get_or l.components w 0 ≤ l.highest) (take l.place-index l.to)
