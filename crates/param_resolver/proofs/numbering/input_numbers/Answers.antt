use Rattle.std.proofs.Common.{get_or, false}
use Rattle.std.proofs.lemmas.List.{get_or_default}
use Rattle.param_resolver.proofs.Counted.{inputs_counted, inputs_more}
use Rattle.param_resolver.proofs.numbering.input_numbers.Goals as goal

pub loop-place-preserved : goal.loop-place-preserved
loop-place-preserved c =
    rw c.in_ok-push.ensures.items (
    inputs_more c.args.graph.now c.args.fed.now c.requires.fed c.loop-place.place c.loop-place.next c.loop-place.numbers.items c.loop-place.invariant (get_or c.args.fed.now c.loop-place.place false) c.sources_at-next.result c.loop-place-test.true (get_or_default c.args.fed.now c.loop-place.place false _ c.loop-place-test.true) c.sources_at-next.ensures)

pub returns : goal.returns
returns c = inputs_counted c.args.graph.now c.args.fed.now c.requires.fed c.loop-place.place c.loop-place.next c.loop-place.numbers.items c.loop-place.invariant c.loop-place-test.false c.loop-place.auto.place-end
