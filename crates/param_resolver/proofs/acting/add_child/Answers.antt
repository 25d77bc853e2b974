use Rattle.std.proofs.Common.{◌∙◌}
use Rattle.param_resolver.specs.Refusal.{level_refusal_of}
use Rattle.param_resolver.proofs.Acts.{child_fails}
use Rattle.param_resolver.proofs.acting.add_child.Goals as goal

pub returns-in-Err-clause-fault : goal.returns-in-Err-clause-fault
returns-in-Err-clause-fault c =
    child_fails c.args.graphs.now c.args.values.now c.args.number c.args.actor.now c.args.place c.args.args.now c.deref.result.now c.in_ok-own.ensures.sound (c.deref.ensures.value ∙ c.in_ok-own.ensures.values) (level_refusal_of c.below.result) (c.below.ensures.stands _ c.in-Err.ensures.fault)
