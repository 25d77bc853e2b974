use Rattle.std.proofs.Common.{◌≡◌, length, sym, ap, ◌∙◌, subst}
use Rattle.std.specs.Arc.{arc_value}
use Rattle.ready_heap.specs.Groups.{RankingView}
use Rattle.sdf_level.specs.declared.single_rate.SingleRate.{SingleRate}
use Rattle.worker_mapping.specs.declared.mapping.Mapping.{Mapping}
use Rattle.one_job.specs.Alike.{AreOneGroup}
use Rattle.one_job.specs.Ready.{side, is_child_at, AreStarted}
use Rattle.one_job.specs.declared.ready.ReadyNodes.{ReadyNodes}
use Rattle.one_job.proofs.Rankings.{are_of_all}
use Rattle.one_job.proofs.Sides.{none_wide}
use Rattle.one_job.proofs.ready.start_ready.Goals as goal

pub over-requires-clause-of_all : goal.over-requires-clause-of_all
over-requires-clause-of_all c = are_of_all c.args.compiled.now.mapping (arc_value c.ranking.result.now) (arc_value c.ranking_of_all.result.now) c.ranking.ensures c.ranking_of_all.ensures

pub over-requires-clause-one_home : goal.over-requires-clause-one_home
over-requires-clause-one_home c = λ yes.
    let homes : c.items.result.now ≡ c.args.compiled.now.mapping.home = c.items.ensures ∙ ap (λ (m : Mapping). m.home) c.mapping.ensures.value in
    subst AreOneGroup (homes ∙ sym c.ranking.ensures.homes) (c.have_home_zero-one_home.ensures.0 yes)

pub put_first-requires-clause-wide : goal.put_first-requires-clause-wide
put_first-requires-clause-wide c = λ b.
    let ranking : RankingView = arc_value c.ranking.result.now in
    ap (λ (r : ReadyNodes). length (side r b).held) c.in_ok-ready.ensures ∙ none_wide ranking b ∙ ap length c.ranking.ensures.homes ∙ ap (λ (m : Mapping). length m.home) (sym c.mapping.ensures.value) ∙ c.mapping.ensures.mapped.homes.one_each ∙ sym c.requires

pub returns : goal.returns
returns c =
    let kinds = c.args.kinds.now in
    let waiting = c.args.waiting.now in
    let nodes_are : c.items-2.result.now ≡ c.args.compiled.now.graph.nodes = c.items-2.ensures ∙ ap (λ (g : SingleRate). g.nodes) c.graph.ensures.value in
    record {
      ranking = arc_value c.ranking.result.now;
      ranked = c.ranking.ensures;
      started = subst (λ (t : Type 0). t) (λ t. AreStarted (is_child_at (nodes_are t) kinds) waiting (length waiting) (c.in_ok-ready.ensures t) c.put_first.new.ready) c.put_first.ensures;
    }
