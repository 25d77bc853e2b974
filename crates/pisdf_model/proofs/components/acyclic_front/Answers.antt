use Rattle.pisdf_model.proofs.Falling.{no_cycle_before}
use Rattle.pisdf_model.proofs.components.acyclic_front.Goals as goal

pub returns : goal.returns
returns c = no_cycle_before c.args.arrows.now c.args.components.now c.loop-place.place c.loop-place.front c.loop-place.invariant c.loop-place-test.false
