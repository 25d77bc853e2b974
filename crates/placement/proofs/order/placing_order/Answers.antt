use Rattle.std.proofs.Common.{◌≡◌, map, length, arith}
use Rattle.std.proofs.lemmas.Result.{IfOk-weaker}
use Rattle.placement.specs.Placing.{IsPlacingOrder}
use Rattle.placement.proofs.Ranking.{Waiting, WaitingSoFar, none_waiting, one_more_waiting, placing_order_of}
use Rattle.placement.proofs.order.placing_order.Goals as goal

pub loop-number-init : goal.loop-number-init
loop-number-init c = rw c.in_ok-waiting.ensures.items (none_waiting c.args.sizes.now)

pub loop-number-preserved : goal.loop-number-preserved
loop-number-preserved c =
    rw c.in_ok-push.ensures.items (one_more_waiting c.args.sizes.now c.loop-number.waiting.items c.loop-number.number c.loop-number-test.true c.loop-number.invariant)

pub returns : goal.returns
returns c =
    let all : c.loop-number.number ≡ length c.args.sizes.now = omega arith in
    let waiting : WaitingSoFar c.args.sizes.now c.loop-number.waiting.items (length c.args.sizes.now) = rw all at c.loop-number.invariant in
    let order = placing_order_of c.args.sizes.now c.loop-number.waiting.items c.sort.new.self.items waiting c.in_ok-sort.ensures.permutation c.in_ok-sort.ensures.sorted in
    IfOk-weaker c.numbers.result (λ v. v.items ≡ map (λ (w : Waiting). w.1) c.deref.result.now) (λ v. IsPlacingOrder c.args.sizes.now v.items) (λ v same. rw (same, c.deref.ensures.value) order) c.numbers.ensures
