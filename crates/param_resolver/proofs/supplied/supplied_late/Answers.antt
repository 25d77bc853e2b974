use Rattle.param_resolver.proofs.Supplying.{gives_late_more}
use Rattle.param_resolver.proofs.supplied.supplied_late.Goals as goal

pub loop-place-preserved : goal.loop-place-preserved
loop-place-preserved c =
    let more = gives_late_more c.args.params.now c.args.known.now c.args.chosen.now c.loop-place.place c.loop-place.chosen_before c.loop-place.supplied.items c.index-params-place.result
    c.loop-place-test.true c.index-params-place.is c.loop-place.invariant in
    rw (c.chosen_taken-chosen_before.ensures, c.in_ok-push.ensures.items, c.supplied_next.ensures, c.known_at-inherited.ensures, c.value_at-next_chosen.ensures) more
