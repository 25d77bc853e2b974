use Rattle.std.proofs.Common.{◌∙◌, get_or, false}
use Rattle.std.proofs.lemmas.List.{get_or_default}
use Rattle.param_resolver.proofs.Counted.{rate_more, rates_done}
use Rattle.param_resolver.proofs.numbering.input_sources.Goals as goal

pub loop-place-preserved : goal.loop-place-preserved
loop-place-preserved c =
    c.in_ok-add_input.ensures
    ∙ rate_more c.args.graph.now c.args.fed.now c.requires c.args.taken.now c.loop-place.place c.loop-place.rates.items c.loop-place.invariant (get_or c.args.fed.now c.loop-place.place false) c.loop-place-test.true (get_or_default c.args.fed.now c.loop-place.place false _ c.loop-place-test.true) c.number_at.result c.number_at.ensures

pub returns : goal.returns
returns c = rates_done c.args.graph.now c.args.fed.now c.args.taken.now c.loop-place.place c.loop-place.rates.items c.requires c.loop-place.invariant c.loop-place-test.false c.loop-place.auto.place-end
