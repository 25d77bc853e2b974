use Rattle.param_resolver.proofs.Counted.{outputs_more}
use Rattle.param_resolver.proofs.numbering.output_numbers.Goals as goal

pub loop-actor-preserved : goal.loop-actor-preserved
loop-actor-preserved c =
    rw c.in_ok-push.ensures.items (
    outputs_more c.args.graphs.now c.args.graph.now c.items-actors.result.now c.items-actors.ensures c.loop-actor.actor-index c.loop-actor.next c.loop-actor.numbers.items c.loop-actor.invariant c.actor-item.result c.config_outputs-next.result c.loop-actor-test.true c.actor-item.is c.config_outputs-next.ensures)
