use Rattle.std.proofs.Common.{ℕ, ◌-◌, ◌≤◌, List, [], ◌∷◌, ◌++◌, take, slice_index, arith, ap, ◌∙◌}
use Rattle.std.proofs.lemmas.List.{append_assoc}
use Rattle.order_memory.specs.Orders.{neighbours}
use Rattle.order_memory.proofs.Neighbouring.{neighbours_more}
use Rattle.order_memory.proofs.orders.add_neighbours.Goals as goal

pub loop-place-preserved : goal.loop-place-preserved
loop-place-preserved c =
    let order = c.args.order.now in
    let place = c.loop-place.place in
    let some : 1 ≤ place = omega arith in
    let pair : List (ℕ × ℕ) = (slice_index order (place - 1), slice_index order place) ∷ [] in
    rw (c.in_ok-push.ensures.items, neighbours_more order place some c.loop-place-test.true)
    (ap (λ (pairs : List (ℕ × ℕ)). pairs ++ pair) c.loop-place.invariant ∙ append_assoc c.args.after.now.items (neighbours (take place order)) pair)
