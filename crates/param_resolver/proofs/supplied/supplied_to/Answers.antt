use Rattle.param_resolver.proofs.Supplying.{gives_more}
use Rattle.param_resolver.proofs.supplied.supplied_to.Goals as goal

pub loop-param-preserved : goal.loop-param-preserved
loop-param-preserved c =
    let more = gives_more c.args.params.now c.args.inherited.now c.args.chosen.now c.loop-param.param-index c.loop-param.inherited_before c.loop-param.chosen_before c.loop-param.supplied.items c.param-item.result
    c.loop-param-test.true c.param-item.is c.loop-param.invariant in
    rw (c.inherited_taken-inherited_before.ensures, c.chosen_taken-chosen_before.ensures, c.in_ok-push.ensures.items, c.supplied_next.ensures, c.value_at-next.ensures, c.value_at-next_chosen.ensures) more
