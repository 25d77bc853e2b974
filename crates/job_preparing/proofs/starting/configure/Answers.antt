use Rattle.std.proofs.Common.{◌≡◌, ℕ, List, [], length, replicate, sym, ap, ◌∙◌, subst}
use Rattle.std.specs.Arc.{arc_value}
use Rattle.pisdf_model.specs.declared.graph.Graphs.{Graphs}
use Rattle.pisdf_meaning.specs.Configuring.{early_in}
use Rattle.job_rules.specs.Items.{graph_of}
use Rattle.job_preparing.specs.Unclaimed.{AreUnclaimed}
use Rattle.job_preparing.specs.Standing.{nothing}
use Rattle.job_preparing.proofs.Asked.{graph_at}
use Rattle.job_preparing.proofs.Started.{all_free, none_lent, start_keeps}
use Rattle.job_preparing.proofs.starting.configure.Goals as goal

graph_is : (c : goal.In_ok-stages) → c.index-items-firing.result ≡ graph_of (arc_value c.args.graphs).graphs c.args.firing
graph_is c = c.index-items-firing.is ∙ graph_at (arc_value c.args.graphs).graphs c.args.firing c.requires.fit c.items.result.now c.index-items-firing.result (c.items.ensures ∙ ap (λ (x : Graphs). x.graphs) c.deref-2.ensures)

unclaimed : (c : goal.In_ok-stages) → AreUnclaimed (arc_value c.args.graphs).graphs c.index-items-firing.result c.args.firing (length c.in_ok-places.places.items) c.in_ok-stages.field-0.stages.items c.in_ok-stages.field-0.frames.items
unclaimed c =
    let P : Graphs → Type 0 = λ x. AreUnclaimed x.graphs c.index-items-firing.result c.args.firing (length c.deref-4.result.now) c.in_ok-stages.field-0.stages.items c.in_ok-stages.field-0.frames.items in
    let Q : List ℕ → Type 0 = λ l. AreUnclaimed (arc_value c.args.graphs).graphs c.index-items-firing.result c.args.firing (length l) c.in_ok-stages.field-0.stages.items c.in_ok-stages.field-0.frames.items in
    subst Q c.deref-4.ensures.value (subst P c.deref-3.ensures c.in_ok-stages.ensures)

pub invariant_of-result : goal.invariant_of-result
invariant_of-result c =
    start_keeps (arc_value c.args.graphs) c.args.firing c.in_ok-places.places.items c.in_ok-stages.field-0.stages.items c.in_ok-stages.field-0.frames.items c.index-items-firing.result (graph_is c) c.in_ok-places.ensures (unclaimed c)
    c.in_ok-early.early c.in_ok-left.left.items c.in_ok-traces.traces.items c.requires.valid c.requires.fit c.requires.inherited
    (c.in_ok-early.ensures ∙ ap (λ (x : Graphs). early_in x.graphs c.args.firing) c.deref.ensures)
    (c.in_ok-left.ensures ∙ ap (λ n. replicate n nothing) (c.len.ensures ∙ c.in_ok-places.places.ok.0))
    (c.in_ok-traces.ensures ∙ ap (λ n. replicate n []) (c.len-2.ensures ∙ c.in_ok-places.places.ok.0))

pub returns-clause-free : goal.returns-clause-free
returns-clause-free c = all_free (arc_value c.args.graphs) c.args.firing c.in_ok-places.places.items c.in_ok-stages.field-0.stages.items c.in_ok-stages.field-0.frames.items c.index-items-firing.result (graph_is c) c.in_ok-places.ensures (unclaimed c)

pub returns-clause-lent : goal.returns-clause-lent
returns-clause-lent c = none_lent (arc_value c.args.graphs) c.args.firing c.in_ok-places.places.items c.in_ok-stages.field-0.stages.items c.in_ok-stages.field-0.frames.items c.index-items-firing.result (graph_is c) c.in_ok-places.ensures (unclaimed c)
