use Rattle.std.proofs.Common.{refl}
use Rattle.balance_solver.proofs.Scaling.{scaled_more, too_large}
use Rattle.balance_solver.proofs.join.scale.Goals as goal

pub loop-actor-preserved : goal.loop-actor-preserved
loop-actor-preserved c =
    let is = c.requires.there c.loop-actor.actor-index 0 c.loop-actor-test.true in
    scaled_more c.args.q.now c.loop-actor.q c.args.actors.now c.args.times c.loop-actor.actor-index c.loop-actor-test.true is c.requires.once c.loop-actor.invariant _ refl c.if-scaled.false c.loop-actor.auto.q

pub returns-then-scaled-clause-large : goal.returns-then-scaled-clause-large
returns-then-scaled-clause-large c =
    let is = c.requires.there c.loop-actor.actor-index 0 c.loop-actor-test.true in
    too_large c.args.q.now c.loop-actor.q c.args.actors.now c.args.times c.loop-actor.actor-index c.loop-actor-test.true is c.requires.once c.loop-actor.invariant c.if-scaled.true
