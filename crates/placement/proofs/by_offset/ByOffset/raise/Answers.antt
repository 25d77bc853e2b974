use Rattle.std.proofs.Common.{◌≡◌, ◌-◌, ◌<◌, [], ◌∷◌, ◌++◌, ap, sym, ◌∙◌, length, reverse, arith}
use Rattle.std.proofs.lemmas.List.{get_or-reverse, length-reverse}
use Rattle.std.proofs.lemmas.List.Elements.{All-push}
use Rattle.placement.specs.declared.gap.Placed.{Placed}
use Rattle.placement.proofs.Cut.{rest_behind, same_order}
use Rattle.placement.proofs.by_offset.ByOffset.raise.Goals as goal

pub loop-self-preserved : goal.loop-self-preserved
loop-self-preserved c =
    let length_tested = c.len.ensures in
    let some = c.loop-self-test.true in
    let is = rw c.len-in-loop-self.ensures at c.index-next.ensures in
    let popped : c.loop-self.self.high.items ≡ c.pop-moved.new.self.items ++ c.index-next.result.now ∷ [] = rw (rw c.push_low.ensures.high at (c.pop-moved.ensures.value c.index-next.result.now (rw c.push_low.ensures.high (omega arith))), sym is) at (rw c.push_low.ensures.high at c.pop-moved.ensures.items) in
    record {
      same = rw (c.in_ok-push_low.ensures.low) (same_order c.loop-self.self.low.items c.pop-moved.new.self.items c.index-next.result.now ∙ ap (λ high. c.loop-self.self.low.items ++ reverse high) (sym popped) ∙ c.loop-self.invariant.same);
      reach = c.in_ok-push_low.ensures.reach;
      low = rw (c.in_ok-push_low.ensures.low) (All-push (λ (p : Placed). p.offset < c.args.offset) c.loop-self.self.low.items c.index-next.result.now c.loop-self.invariant.low c.if-offset-next.false);
    }

pub returns-then-offset-next-clause-high : goal.returns-then-offset-next-clause-high
returns-then-offset-next-clause-high c =
    let length_tested = c.len.ensures in
    let test = c.loop-self-test.true in
    let whole = c.loop-self.self.high.ok in
    let some : 0 < length c.loop-self.self.high.items = omega arith in
    let long : c.len-in-loop-self.result - 1 ≡ length c.loop-self.self.high.items - 1 - 0 = let length_now = c.len-in-loop-self.ensures in omega arith in
    let is = rw long at c.index-next.ensures in
    let first = get_or-reverse c.loop-self.self.high.items 0 c.index-next.result.now some in
    rest_behind c.loop-self.self.low.items (reverse c.loop-self.self.high.items) c.args.offset (rw c.loop-self.invariant.same c.requires.order.rising) c.index-next.result.now (rw length-reverse some) (is ∙ sym first) c.if-offset-next.true
