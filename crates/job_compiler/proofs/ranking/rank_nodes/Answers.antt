use Rattle.std.proofs.Common.{ℕ, ◌<◌, ◌≤◌, List, length, slice_index, sym, ◌∙◌, subst}
use Rattle.ready_heap.specs.Groups.{RankingView, group_count}
use Rattle.job_compiler.specs.Ranked.{AreKeys, IsRankingOf}
use Rattle.job_compiler.proofs.ranking.rank_nodes.Goals as goal

pub returns : goal.returns
returns c =
    let r = c.in_ok-ranking.ranking in
    let made = c.in_ok-ranking.ensures in
    let Reached : List ℕ → Type 0 = λ homes. (home : ℕ) → home < group_count r → (n : ℕ) × (n < length homes) × (home ≤ slice_index homes n) in
    let all : IsRankingOf c.args.mapping.now r = record {
      homes = made.groups ∙ c.items-homes.ensures;
      keys = subst (AreKeys c.args.mapping.now.priority) (sym made.keys) c.requires.keys;
      few = subst Reached c.items-homes.ensures (λ home below. c.count_of.ensures.least home (subst (λ (k : ℕ). home < k) made.count below));
    } in
    subst (λ (v : RankingView). IsRankingOf c.args.mapping.now v) (sym c.in_ok-new.ensures.ok) all
