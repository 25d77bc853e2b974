use Rattle.std.proofs.Common.{ℕ, ◌<◌, slice_index}
use Rattle.std.proofs.lemmas.List.Elements.{All-map}
use Rattle.std.proofs.lemmas.Result.{IfOk-weaker}
use Rattle.order_memory.proofs.Grouped.{grouped_orders}
use Rattle.order_memory.proofs.orders.orders_of.Goals as goal

pub grouped-requires : goal.grouped-requires
grouped-requires c = rw (c.deref.ensures.value, c.in_ok-pairs.ensures) (All-map (λ (p : ℕ × ℕ). p.0 < c.args.workers) (λ (n : ℕ). (slice_index c.args.home.now n, n)) c.args.line.now c.requires.workers)

pub returns-clause-orders : goal.returns-clause-orders
returns-clause-orders c =
    let orders = grouped_orders c.args.home.now c.args.workers c.args.line.now _ (rw (c.deref.ensures.value, c.in_ok-pairs.ensures) at c.in_ok-vectors.ensures.lists) in
    IfOk-weaker c.as_lists.result _ _ (λ lists same. rw same orders) c.as_lists.ensures
