use Rattle.pisdf_meaning.proofs.AtActors.{inner_so, keeps_is}
use Rattle.pisdf_meaning.proofs.children.begin_child.Goals as goal

pub returns-clause-keeps : goal.returns-clause-keeps
returns-clause-keeps c = keeps_is c.args.graphs.now.graphs c.items-all.result.now c.args.firing.now c.args.call.now.actor.now c.args.call.now.place c.args.call.now.turn c.args.call.now.args.now c.args.read c.items.result.now c.inputs_at-inputs.result c.in_ok-inner.inner c.items-all.ensures c.items.ensures c.inputs_at-inputs.ensures c.requires.child c.requires.read c.in_ok-inner.ensures

pub returns-clause-inner : goal.returns-clause-inner
returns-clause-inner c = inner_so c.args.graphs.now.graphs c.items-all.result.now c.args.firing.now c.args.call.now.actor.now c.args.call.now.place c.args.call.now.turn c.args.call.now.args.now c.args.read c.items.result.now c.inputs_at-inputs.result c.in_ok-inner.inner c.items-all.ensures c.items.ensures c.inputs_at-inputs.ensures c.requires.child c.requires.read c.in_ok-inner.ensures
