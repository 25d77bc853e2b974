use Rattle.std.proofs.Common.{ℕ, List, length, replicate, sym, ap, ◌∙◌, subst}
use Rattle.ready_heap.specs.Groups.{RankingView}
use Rattle.job_compiler.specs.Ranked.{AreKeys, IsRankingOfAll}
use Rattle.job_compiler.proofs.ranking.rank_all.Goals as goal

pub returns : goal.returns
returns c =
    let r = c.in_ok-ranking.ranking in
    let made = c.in_ok-ranking.ensures in
    let all : IsRankingOfAll c.args.mapping.now r = record {
      one_group = made.groups ∙ c.deref.ensures.value ∙ c.in_ok-group.ensures.items_if_clones_equal (λ x y. y) ∙ ap (λ (h : List ℕ). replicate (length h) 0) c.items.ensures;
      keys = subst (AreKeys c.args.mapping.now.priority) (sym made.keys) c.requires.keys;
      one = made.count;
    } in
    subst (λ (v : RankingView). IsRankingOfAll c.args.mapping.now v) (sym c.in_ok-new.ensures.ok) all
