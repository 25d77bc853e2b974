use Rattle.std.proofs.Common.{◌≡◌, ℕ, length, rules, arith}
use Rattle.std.proofs.lemmas.List.Sorted.{IsNonDecreasingBy-from_sort_by_key}
use Rattle.memory_exclusion.proofs.Ranking.{in_order_of}
use Rattle.memory_exclusion.proofs.closure.by_rank.Goals as goal

pub returns : goal.returns
returns c =
    let end : c.loop-e.e ≡ length c.args.edges.now = (let last = c.loop-e.auto.e-end in omega arith) in
    in_order_of c.args.edges.now c.args.ranks.now c.loop-e.order.items c.sort_unstable_by_key.new.self.items
    (let long = c.loop-e.invariant.long in omega arith)
    (λ e below. c.loop-e.invariant.each e (omega arith))
    c.sort_unstable_by_key.ensures.permutation
    c.requires.rising
    (IsNonDecreasingBy-from_sort_by_key (λ (e : ℕ × ℕ). e.0) _ c.sort_unstable_by_key.ensures.sorted (λ a r q k. search rules))
