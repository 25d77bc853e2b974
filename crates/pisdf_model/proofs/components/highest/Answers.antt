use Rattle.std.proofs.Common.{◌≤◌, take, get_or, arith}
use Rattle.std.proofs.lemmas.List.Elements.{All-more, All-weaker}
use Rattle.pisdf_model.proofs.Lists.{all_whole}
use Rattle.pisdf_model.proofs.components.highest.Goals as goal

pub loop-place-preserved : goal.loop-place-preserved
loop-place-preserved c =
    let branch = c.if-highest-component.branch in
    let greater : (c.loop-place.highest ≤ c.if-highest-component.highest) = grind arith in
    let here : (get_or c.args.components.now (get_or c.args.to.now c.loop-place.place-index 0) 0 ≤ c.if-highest-component.highest) = grind arith in
    All-more (λ w. get_or c.args.components.now w 0 ≤ c.if-highest-component.highest) c.args.to.now c.loop-place.place-index 0 c.loop-place-test.true
    (All-weaker (λ w. get_or c.args.components.now w 0 ≤ c.loop-place.highest) (λ w. get_or c.args.components.now w 0 ≤ c.if-highest-component.highest) (λ w below. omega arith) (take c.loop-place.place-index c.args.to.now) c.loop-place.invariant)
    here

pub returns : goal.returns
returns c = all_whole (λ w. get_or c.args.components.now w 0 ≤ c.loop-place.highest) c.args.to.now c.loop-place.place-index c.loop-place-test.false c.loop-place.invariant
