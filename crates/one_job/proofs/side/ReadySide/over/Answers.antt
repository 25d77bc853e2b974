use Rattle.std.proofs.Common.{◌≡◌, sym, ap, ◌∙◌, subst}
use Rattle.std.specs.Prelude.{Some, None, if◌then◌else◌}
use Rattle.std.specs.Arc.{arc_value}
use Rattle.ready_heap.specs.Groups.{RankingView}
use Rattle.one_job.specs.Alike.{AreKeptAlike}
use Rattle.one_job.specs.Ready.{none_in}
use Rattle.one_job.proofs.Rankings.{none_kept}
use Rattle.one_job.proofs.side.ReadySide.over.Goals as goal

pub invariant_of-result : goal.invariant_of-result
invariant_of-result c =
    let ranking : RankingView = arc_value c.args.ranking.now in
    let of_all : RankingView = arc_value c.args.of_all.now in
    let home : c.in_ok-by_home.by_home ≡ none_in ranking = c.in_ok-by_home.ensures ∙ ap none_in c.in_ok-try_clone.ensures in
    let all : c.in_ok-of_all.of_all ≡ (if c.args.one_home then None else Some (none_in of_all)) = c.in_ok-of_all.ensures in
    subst (λ (t : Type 0). t) (λ t. AreKeptAlike (sym home t) (sym all t)) (none_kept ranking of_all c.args.one_home c.requires.of_all c.requires.one_home)
