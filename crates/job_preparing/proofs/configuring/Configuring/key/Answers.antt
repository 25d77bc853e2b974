use Rattle.std.proofs.Common.{◌≡◌, ◌++◌, ℤ, List, sym, ap, ◌∙◌, subst}
use Rattle.std.proofs.lemmas.Result.{IfOk-weaker}
use Rattle.std.specs.Arc.{arc_value}
use Rattle.pisdf_model.specs.declared.graph.Graphs.{Graphs}
use Rattle.pisdf_meaning.specs.Preparing.{chosen_values}
use Rattle.job_compiler.specs.declared.key.Key.{Key}
use Rattle.job_rules.specs.Items.{graph_of}
use Rattle.job_preparing.specs.Invariants.{view_of}
use Rattle.job_preparing.specs.View.{ConfiguringView, IsReady, graph_in, key_of, left_by}
use Rattle.job_preparing.proofs.Asked.{graph_at}
use Rattle.job_preparing.proofs.Readied.{slim}
use Rattle.job_preparing.proofs.Slimmed.{chosen_bare}
use Rattle.job_preparing.proofs.configuring.Configuring.key.Goals as goal

pub returns : goal.returns
returns c =
    let ready = subst IsReady (sym c.self.view_is) c.requires in
    let g = graph_of (arc_value c.self.inside.graphs).graphs c.self.inside.firing in
    let graph_is : c.index-items-self.result ≡ g = c.index-items-self.is ∙ graph_at (arc_value c.self.inside.graphs).graphs c.self.inside.firing c.self.invariant.fit c.items.result.now c.index-items-self.result (c.items.ensures ∙ ap (λ (x : Graphs). x.graphs) c.deref.ensures) in
    let chosen : chosen_values c.index-items-self.result c.deref-2.result.now ≡ chosen_values g (left_by (view_of c.self.inside)) =
    ap (λ x. chosen_values x c.deref-2.result.now) graph_is ∙ ap (chosen_values g) (c.deref-2.ensures.value ∙ slim (arc_value c.self.inside.graphs) c.self.inside.firing c.self.inside.early c.self.inside.places.items c.self.inside.stages.items c.self.inside.frames.items c.self.inside.left.items c.self.inside.traces.items c.self.invariant ready) ∙ chosen_bare g (left_by (view_of c.self.inside)) in
    let K : List ℤ → Key = λ l. record { graph = c.self.inside.firing.graph; workers = c.args.workers; values = c.self.inside.firing.inherited ++ l } in
    IfOk-weaker c.key_for.result _ _ (λ key is. is ∙ ap K chosen ∙ ap (λ (v : ConfiguringView). key_of (graph_in v) c.args.workers v.firing (left_by v)) c.self.view_is) c.key_for.ensures
