use Rattle.param_resolver.proofs.ByActor.{are_of_actor, are_one_each, child_sound}
use Rattle.param_resolver.proofs.laws.level_by_actor.Goals as goal

pub returns : goal.returns
returns c = record { each = are_of_actor; many = are_one_each; sound = child_sound }
