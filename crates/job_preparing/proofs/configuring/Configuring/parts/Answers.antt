use Rattle.std.proofs.Common.{◌≡◌, List, [], Some, slice_get, sym, ap, ◌∙◌, subst}
use Rattle.std.specs.Arc.{arc_value}
use Rattle.pisdf_model.specs.Valid.{AreValid}
use Rattle.pisdf_model.specs.declared.graph.Graphs.{Graphs}
use Rattle.param_resolver.specs.EarlyCheck.{early_faults}
use Rattle.job_rules.specs.Items.{graph_of}
use Rattle.pisdf_meaning.specs.Configuring.{early_in}
use Rattle.pisdf_meaning.specs.declared.firing.Configured.{Configured}
use Rattle.pisdf_meaning.specs.declared.firing.Firing.{Firing}
use Rattle.job_preparing.specs.Handing.{with_traces}
use Rattle.job_preparing.specs.Slim.{slim_firing, slim_left}
use Rattle.job_preparing.specs.View.{ConfiguringView, HasInherited, IsReady, graph_in, key_of, left_by}
use Rattle.job_preparing.proofs.Asked.{here}
use Rattle.job_preparing.proofs.Readied.{left_is}
use Rattle.job_preparing.proofs.Slimmed.{slim_traced}
use Rattle.job_preparing.proofs.configuring.Configuring.parts.Goals as goal

pub returns-clause-task : goal.returns-clause-task
returns-clause-task c =
    let i = c.self.inside in
    let kept = c.self.invariant in
    let graphs = c.in_ok-try_clone.field-0 in
    let whole : Firing = c.of.result.value in
    let ready = subst IsReady (sym c.self.view_is) c.requires.ready in
    let told_is : c.told_left.result ≡ with_traces i.left.items i.traces.items =
    c.told_left.ensures ∙ ap left_by (sym c.self.view_is) ∙ left_is (arc_value i.graphs) i.firing i.early i.places.items i.stages.items i.frames.items i.left.items i.traces.items kept ready in
    let graphs_are : arc_value graphs ≡ arc_value i.graphs = c.in_ok-try_clone.ensures in
    let firing_is : whole ≡ i.firing = c.of.ensures in
    let P : Graphs → Firing → Type 0 = λ x f. slice_get x.graphs f.graph ≡ Some (graph_of x.graphs f) in
    let Q : Graphs → Firing → Type 0 = λ x f. early_faults x.graphs f.graph f.inherited ≡ [] in
    let R : Graphs → Firing → Type 0 = λ x f. HasInherited x.graphs f in
    let own = here (arc_value i.graphs).graphs i.firing kept.fit in
    record {
      valid = subst (λ (x : Graphs). AreValid x) (sym graphs_are) kept.valid;
      here = subst (λ (x : Graphs). P x whole) (sym graphs_are) (subst (P (arc_value i.graphs)) (sym firing_is) own);
      sound = subst (λ (x : Graphs). Q x whole) (sym graphs_are) (subst (Q (arc_value i.graphs)) (sym firing_is) kept.fit.sound);
      early_is = c.in_ok-share.ensures ∙ kept.early_is ∙ ap (λ (x : Graphs). early_in x.graphs i.firing) (sym graphs_are) ∙ ap (λ f. early_in (arc_value graphs).graphs f) (sym firing_is);
      some_worker = c.requires.workers;
      firing_is = c.in_ok-slim_firing.ensures ∙ ap slim_firing (sym firing_is);
      left_is = c.in_ok-slim_left.ensures ∙ ap slim_left c.deref.ensures.value ∙ (sym (slim_traced i.left.items i.traces.items) ∙ ap slim_left (sym told_is));
      key_is = c.requires.key ∙ ap (λ (v : ConfiguringView). key_of (graph_in v) c.args.workers v.firing (left_by c.args.self.now)) (sym c.self.view_is)
          ∙ ap (λ (l : List Configured). key_of (graph_of (arc_value i.graphs).graphs i.firing) c.args.workers i.firing l) (sym c.told_left.ensures)
          ∙ ap (λ (x : Graphs). key_of (graph_of x.graphs i.firing) c.args.workers i.firing c.told_left.result) (sym graphs_are)
          ∙ ap (λ f. key_of (graph_of (arc_value graphs).graphs f) c.args.workers f c.told_left.result) (sym firing_is);
      inherited = subst (λ (x : Graphs). R x whole) (sym graphs_are) (subst (R (arc_value i.graphs)) (sym firing_is) kept.inherited);
    }
