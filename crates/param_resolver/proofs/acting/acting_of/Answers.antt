use Rattle.param_resolver.specs.Refusal.{level_refusal_of}
use Rattle.param_resolver.proofs.Acts.{acts_fault, acts_more, passed_level, whole_args, whole_children, whole_ins, whole_outs, whole_places, whole_sound}
use Rattle.param_resolver.proofs.acting.acting_of.Goals as goal

pub returns-in_err-add_actor-clause-fault : goal.returns-in_err-add_actor-clause-fault
returns-in_err-add_actor-clause-fault c =
    let fault = c.in_err-add_actor.field-0.0 in
    let acting = c.loop-number.acting in
    passed_level c.from_residual.result fault _ c.from_residual.ensures.1
    (acts_fault c.args.graphs.now c.args.graph.now c.args.values.now c.loop-number.number acting.places.items acting.args.items acting.ins.items acting.outs.items acting.children.items c.loop-number.invariant c.actor-item.result (level_refusal_of fault) (rw c.items-actor-items.ensures at c.loop-number-test.true) (rw c.items-actor-items.ensures at c.actor-item.is) c.in_err-add_actor.ensures.fault)

pub loop-number-preserved : goal.loop-number-preserved
loop-number-preserved c =
    let acting = c.loop-number.acting in
    rw (c.in_ok-add_actor.ensures.places, c.in_ok-add_actor.ensures.args, c.in_ok-add_actor.ensures.ins, c.in_ok-add_actor.ensures.outs, c.in_ok-add_actor.ensures.children) (
    acts_more c.args.graphs.now c.args.graph.now c.args.values.now c.loop-number.number acting.places.items acting.args.items acting.ins.items acting.outs.items acting.children.items c.loop-number.invariant c.actor-item.result (rw c.items-actor-items.ensures at c.loop-number-test.true) (rw c.items-actor-items.ensures at c.actor-item.is) c.in_ok-add_actor.ensures.sound)

pub returns-clause-places : goal.returns-clause-places
returns-clause-places c =
    let acting = c.loop-number.acting in
    whole_places c.args.graphs.now c.args.graph.now c.args.values.now c.loop-number.number acting.places.items acting.args.items acting.ins.items acting.outs.items acting.children.items c.loop-number.invariant (rw c.items-actor-items.ensures at c.loop-number-test.false)

pub returns-clause-args : goal.returns-clause-args
returns-clause-args c =
    let acting = c.loop-number.acting in
    whole_args c.args.graphs.now c.args.graph.now c.args.values.now c.loop-number.number acting.places.items acting.args.items acting.ins.items acting.outs.items acting.children.items c.loop-number.invariant (rw c.items-actor-items.ensures at c.loop-number-test.false)

pub returns-clause-ins : goal.returns-clause-ins
returns-clause-ins c =
    let acting = c.loop-number.acting in
    whole_ins c.args.graphs.now c.args.graph.now c.args.values.now c.loop-number.number acting.places.items acting.args.items acting.ins.items acting.outs.items acting.children.items c.loop-number.invariant (rw c.items-actor-items.ensures at c.loop-number-test.false)

pub returns-clause-outs : goal.returns-clause-outs
returns-clause-outs c =
    let acting = c.loop-number.acting in
    whole_outs c.args.graphs.now c.args.graph.now c.args.values.now c.loop-number.number acting.places.items acting.args.items acting.ins.items acting.outs.items acting.children.items c.loop-number.invariant (rw c.items-actor-items.ensures at c.loop-number-test.false)

pub returns-clause-children : goal.returns-clause-children
returns-clause-children c =
    let acting = c.loop-number.acting in
    whole_children c.args.graphs.now c.args.graph.now c.args.values.now c.loop-number.number acting.places.items acting.args.items acting.ins.items acting.outs.items acting.children.items c.loop-number.invariant (rw c.items-actor-items.ensures at c.loop-number-test.false)

pub returns-clause-sound : goal.returns-clause-sound
returns-clause-sound c =
    let acting = c.loop-number.acting in
    whole_sound c.args.graphs.now c.args.graph.now c.args.values.now c.loop-number.number acting.places.items acting.args.items acting.ins.items acting.outs.items acting.children.items c.loop-number.invariant (rw c.items-actor-items.ensures at c.loop-number-test.false)
