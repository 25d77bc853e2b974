use Rattle.std.proofs.Common.{refl}
use Rattle.param_resolver.proofs.Counted.{actors_more}
use Rattle.param_resolver.proofs.numbering.actor_numbers.Goals as goal

pub loop-actor-preserved : goal.loop-actor-preserved
loop-actor-preserved c =
    rw c.in_ok-push.ensures.items (
    actors_more c.args.graph.now c.items-actors.result.now c.items-actors.ensures c.loop-actor.actor-index c.loop-actor.next c.loop-actor.numbers.items c.loop-actor.invariant c.actor-item.result c.actors_at-next.result c.loop-actor-test.true c.actor-item.is (c.actors_at-next.ensures c.actor-item.result refl))
