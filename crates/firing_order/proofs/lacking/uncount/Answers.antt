use Rattle.std.proofs.Common.{◌<◌, get_or, length, arith, sym, ◌∙◌}
use Rattle.sdf_level.specs.declared.inner_link.InnerLink.{InnerLink}
use Rattle.firing_order.proofs.Counting.{uncount_room, uncount_lacking, uncount_filled}
use Rattle.firing_order.proofs.lacking.uncount.Goals.{then-lacks_tokens, else-lacks_tokens}
use Rattle.firing_order.proofs.lacking.uncount.Goals as goal

abbrev none : InnerLink
none = record { tail = 0; produced = 0; head = 0; consumed = 0; delay = 0 }

pub overflow_sub-lacking : goal.overflow_sub-lacking
overflow_sub-lacking c = uncount_room c.args.fired.now c.args.links.now c.loop-link.link-index none c.loop-link-test.true c.args.lacking.now c.loop-link.lacking (sym c.lacks_tokens.ensures ∙ c.if-lacks_tokens.true) c.requires.counted c.loop-link.invariant

pub loop-link-preserved : goal.loop-link-preserved
loop-link-preserved c =
    let link : InnerLink = get_or c.args.links.now c.loop-link.link-index none in
    let is = c.requires.links c.loop-link.link-index none c.loop-link-test.true in
    let one_each = c.requires.one_each in
    let there : link.head < length c.loop-link.lacking = let h = is.head_there in omega arith in
    elim c.if-lacks_tokens.branch [
      | then-lacks_tokens w ↦
          let lacks = sym c.lacks_tokens.ensures ∙ w.if-lacks_tokens.true in
          let some = uncount_room c.args.fired.now c.args.links.now c.loop-link.link-index none c.loop-link-test.true c.args.lacking.now c.loop-link.lacking lacks c.requires.counted c.loop-link.invariant in
          rw w.lacking-is (uncount_lacking c.args.fired.now c.args.links.now c.loop-link.link-index none c.loop-link-test.true c.args.lacking.now c.loop-link.lacking there lacks some c.loop-link.invariant)
      | else-lacks_tokens w ↦ rw w.lacking-is (uncount_filled c.args.fired.now c.args.links.now c.loop-link.link-index none c.loop-link-test.true c.args.lacking.now c.loop-link.lacking (sym c.lacks_tokens.ensures ∙ w.if-lacks_tokens.false) c.loop-link.invariant)
    ]
