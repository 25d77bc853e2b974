use Rattle.std.proofs.Common.{◌≡◌, ℕ, length, rules, arith}
use Rattle.std.proofs.lemmas.List.Sorted.{IsNonDecreasingBy-from_sort_by_key}
use Rattle.worker_mapping.proofs.ByRank.{IsByRank-sorted}
use Rattle.worker_mapping.proofs.priority.by_rank.Goals as goal

pub returns : goal.returns
returns c =
    let end : c.loop-node.node ≡ length c.args.ranks.now = (let last = c.loop-node.auto.node-end in omega arith) in
    IsByRank-sorted c.args.ranks.now c.loop-node.order.items c.sort_unstable_by_key.new.self.items
    (let long = c.loop-node.invariant.long in omega arith)
    (λ n below. c.loop-node.invariant.each n (omega arith))
    c.sort_unstable_by_key.ensures.permutation
    (IsNonDecreasingBy-from_sort_by_key (λ (e : ℕ × ℕ). e.0) _ c.sort_unstable_by_key.ensures.sorted (λ a r q k. search rules))
