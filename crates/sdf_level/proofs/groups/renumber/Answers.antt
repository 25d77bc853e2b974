use Rattle.std.proofs.Common.{◌≡◌, length, arith}
use Rattle.sdf_level.proofs.Regrouped.{renumbered_more}
use Rattle.sdf_level.proofs.groups.renumber.Goals as goal

pub loop-actor-preserved : goal.loop-actor-preserved
loop-actor-preserved c =
    let is = c.requires c.loop-actor.actor-index 0 c.loop-actor-test.true in
    let long : length c.loop-actor.number ≡ length c.args.number.now = c.loop-actor.auto.number in
    renumbered_more c.args.number.now c.loop-actor.number c.args.actors.now c.loop-actor.actor-index c.args.group c.loop-actor-test.true (let l = long in omega arith) long c.loop-actor.invariant
