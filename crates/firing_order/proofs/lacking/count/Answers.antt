use Rattle.std.proofs.Common.{◌<◌, get_or, length, arith, sym, ◌∙◌}
use Rattle.sdf_level.specs.declared.inner_link.InnerLink.{InnerLink}
use Rattle.firing_order.proofs.Counting.{count_room, count_lacking, count_filled}
use Rattle.firing_order.proofs.lacking.count.Goals.{then-lacks_tokens, else-lacks_tokens}
use Rattle.firing_order.proofs.lacking.count.Goals as goal

abbrev none : InnerLink
none = record { tail = 0; produced = 0; head = 0; consumed = 0; delay = 0 }

pub overflow_add-lacking : goal.overflow_add-lacking
overflow_add-lacking c =
    let link : InnerLink = get_or c.args.links.now c.loop-link.link-index none in
    let room = count_room c.args.fired.now c.args.links.now c.loop-link.link-index none c.loop-link-test.true link.head in
    let so_far = c.loop-link.invariant link.head in
    let few = c.requires.few link.head in
    omega (arith, room, so_far, few)

pub loop-link-preserved : goal.loop-link-preserved
loop-link-preserved c =
    let link : InnerLink = get_or c.args.links.now c.loop-link.link-index none in
    let is = c.requires.links c.loop-link.link-index none c.loop-link-test.true in
    let one_each = c.requires.one_each in
    let there : link.head < length c.loop-link.lacking = let h = is.head_there in omega arith in
    elim c.if-lacks_tokens.branch [
      | then-lacks_tokens w ↦ rw w.lacking-is (count_lacking c.args.fired.now c.args.links.now c.loop-link.link-index none c.loop-link-test.true c.args.lacking.now c.loop-link.lacking there (sym c.lacks_tokens.ensures ∙ w.if-lacks_tokens.true) c.loop-link.invariant)
      | else-lacks_tokens w ↦ rw w.lacking-is (count_filled c.args.fired.now c.args.links.now c.loop-link.link-index none c.loop-link-test.true c.args.lacking.now c.loop-link.lacking (sym c.lacks_tokens.ensures ∙ w.if-lacks_tokens.false) c.loop-link.invariant)
    ]
