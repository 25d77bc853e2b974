use Rattle.pisdf_model.proofs.Falling.{Falls}
use Rattle.pisdf_model.proofs.components.acyclic_front.Given as goal

abbrev pub invariant-loop-place : goal.invariant-loop-place
invariant-loop-place l = Falls l.arrows l.components l.place l.front
