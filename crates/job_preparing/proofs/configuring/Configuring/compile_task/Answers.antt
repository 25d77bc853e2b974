use Rattle.std.proofs.Common.{◌≡◌, ℕ, List, Some, slice_get, sym, ap, ◌∙◌, subst}
use Rattle.std.specs.Arc.{arc_value}
use Rattle.pisdf_model.specs.declared.graph.Graphs.{Graphs}
use Rattle.pisdf_meaning.specs.declared.firing.Configured.{Configured}
use Rattle.pisdf_meaning.specs.declared.firing.Firing.{Firing}
use Rattle.job_rules.specs.Items.{graph_of}
use Rattle.job_preparing.specs.CompileTasks.{IsReadyFor}
use Rattle.job_preparing.specs.Levels.{SuitsKey}
use Rattle.job_preparing.specs.View.{ConfiguringView, HasInherited, graph_in, key_of, left_by}
use Rattle.job_preparing.proofs.Asked.{here}
use Rattle.job_preparing.proofs.ByKeys.{by_key}
use Rattle.job_preparing.proofs.configuring.Configuring.compile_task.Goals as goal

pub invariant_of-result : goal.invariant_of-result
invariant_of-result c =
    let i = c.self.inside in
    let v : ConfiguringView = c.args.self.now in
    let level = arc_value c.in-Level.level in
    let graphs_are : arc_value c.of.result.value ≡ arc_value i.graphs = ap arc_value c.of.ensures in
    let firing_is : c.of-in-Level-2.result.value ≡ i.firing = c.of-in-Level-2.ensures in
    let by = subst (SuitsKey v.graphs.graphs (key_of (graph_in v) c.args.workers v.firing (left_by v))) c.in-Level.is c.requires.suits in
    let inherited = subst (λ (x : ConfiguringView). HasInherited x.graphs.graphs x.firing) c.self.view_is c.self.invariant.inherited in
    let ready = by_key v.graphs.graphs level c.args.workers v.firing (left_by v) inherited by in
    let R : Graphs → ℕ → Firing → List Configured → Type 0 = λ g w f l. IsReadyFor g.graphs w f l level in
    let P : Graphs → Firing → Type 0 = λ x f. slice_get x.graphs f.graph ≡ Some (graph_of x.graphs f) in
    let own = here (arc_value i.graphs).graphs i.firing c.self.invariant.fit in
    record {
      here = subst (λ (x : Graphs). P x c.of-in-Level-2.result.value) (sym graphs_are) (subst (P (arc_value i.graphs)) (sym firing_is) own);
      ready = subst (λ g. R g c.of-in-Level.result.value c.of-in-Level-2.result.value c.told_left.result) (sym (graphs_are ∙ ap (λ (x : ConfiguringView). x.graphs) c.self.view_is))
          (subst (λ w. R v.graphs w c.of-in-Level-2.result.value c.told_left.result) (sym c.of-in-Level.ensures)
          (subst (λ f. R v.graphs c.args.workers f c.told_left.result) (sym (firing_is ∙ ap (λ (x : ConfiguringView). x.firing) c.self.view_is))
          (subst (λ l. R v.graphs c.args.workers v.firing l) (sym c.told_left.ensures) ready)));
    }
