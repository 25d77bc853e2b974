use Rattle.std.proofs.Common.{◌∙◌}
use Rattle.pisdf_model.proofs.Holds.{one_more_place}
use Rattle.pisdf_model.proofs.state_tokens.over_one_level_more.Goals as goal

pub loop-place-preserved : goal.loop-place-preserved
loop-place-preserved c =
    c.in_ok-push.ensures.items
    ∙ one_more_place c.args.own.now c.args.holds.now c.args.children.now c.loop-place.place c.index-children-place.result c.items.result.now c.count_at.result c.with_children.result c.loop-place.more.items c.loop-place-test.true c.index-children-place.is c.items.ensures c.count_at.ensures c.with_children.ensures c.loop-place.invariant
