use Rattle.std.proofs.Common.{◌≡◌, false, length, replicate, ap, ◌∙◌, subst, arith}
use Rattle.std.proofs.lemmas.Grind.{common_steps}
use Rattle.std.specs.Arc.{arc_value}
use Rattle.ready_heap.specs.Groups.{RankingView, IsRanked, held_by}
use Rattle.ready_heap.proofs.GroupSteps.{none_kept, held_none, ranks_long}
use Rattle.ready_heap.proofs.groups.GroupedHeaps.over.Goals as goal

pub invariant_of-result : goal.invariant_of-result
invariant_of-result c =
    let r : RankingView = arc_value c.args.ranking in
    let ranked : IsRanked r = subst IsRanked c.deref.ensures c.count.ensures.kept in
    let count_is : c.count.result ≡ length r.numbers = c.count.ensures.count ∙ ap (λ (v : RankingView). length v.numbers) c.deref.ensures in (
      ranked,
      none_kept r.numbers c.in_ok-words.words.items c.in_ok-summary.summary.items _ _ c.in_ok-words.ensures.zeros c.in_ok-summary.ensures.zeros (first_of (omega arith, grind (arith, common_steps))) (first_of (omega arith, grind (arith, common_steps))) (first_of (omega arith, grind (arith, common_steps))) (first_of (omega arith, grind (arith, common_steps))),
    )

pub returns : goal.returns
returns c =
    let r : RankingView = arc_value c.args.ranking in
    let ranked : IsRanked r = subst IsRanked c.deref.ensures c.count.ensures.kept in
    let held_is = ap (λ ws. held_by ws r.ranks) c.in_ok-words.ensures.zeros ∙ (held_none _ r.ranks ∙ ap (λ n. replicate n false) (ranks_long r.groups r.keys r.starts r.numbers r.ranks ranked)) in
    λ t. record { groups = r.groups; keys = r.keys; held = held_is t }
