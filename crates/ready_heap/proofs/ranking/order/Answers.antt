use Rattle.std.proofs.Common.{rules}
use Rattle.std.proofs.lemmas.List.Sorted.{answers_always, ties_still_rise, IsNonDecreasingBy-from_sort_by_key, IsPermutation-trans}
use Rattle.ready_heap.proofs.ranking.order.Goals as goal

pub returns-clause-groups : goal.returns-clause-groups
returns-clause-groups c = IsNonDecreasingBy-from_sort_by_key (λ p. p.group) _ c.in_ok-sort_by_key-2.ensures.sorted (λ a r q k. search rules)

pub returns-clause-keys : goal.returns-clause-keys
returns-clause-keys c =
    ties_still_rise (λ p. p.key) (λ p. p.group) _ _ (c.in_ok-sort_by_key.ensures.sorted (λ p. p.key) (answers_always _ _ _ (λ f a r g h. search rules)))
    (c.sort_by_key-2.ensures.stable (λ p. p.group) (answers_always _ _ _ (λ f a r g h. search rules)))

pub returns-clause-same : goal.returns-clause-same
returns-clause-same c = IsPermutation-trans _ _ _ c.in_ok-sort_by_key.ensures.permutation c.in_ok-sort_by_key-2.ensures.permutation
