use Rattle.std.proofs.Common.{◌≡◌, List, [], Vec, Global, length, replicate, ap, ap₂, ◌∙◌, subst}
use Rattle.pisdf_meaning.specs.declared.firing.Firing.{Firing}
use Rattle.pisdf_meaning.specs.declared.outcome.TraceRow.{TraceRow}
use Rattle.pisdf_model.specs.declared.graph.Graphs.{Graphs}
use Rattle.job_preparing.specs.View.{graph_in}
use Rattle.graph_firing.specs.Nodes.Parts.{call_count, row_at}
use Rattle.graph_firing.specs.Nodes.Starting.{AreOwnParts}
use Rattle.graph_firing.proofs.OfNodes.StartedFiring.{graph_is, lists_here}
use Rattle.graph_firing.proofs.nodes.starting.set_up.Goals as goal

pub returns-clause-lists : goal.returns-clause-lists
returns-clause-lists c =
    let v = c.args.preparing.now in
    let all_is : c.items-all.result.now ≡ v.graphs.graphs = c.items-all.ensures ∙ ap (λ (x : Graphs). x.graphs) (c.deref.ensures ∙ c.graphs.ensures) in
    let here : c.index-all-firing.result ≡ graph_in v = graph_is v.graphs.graphs v.firing c.requires.fit c.items-all.result.now all_is c.firing-firing.result.now.graph (ap (λ (d : Firing). d.graph) c.firing-firing.ensures) c.index-all-firing.result c.index-all-firing.is in
    lists_here v c.args.set.now c.in_ok-lists.lists c.firing-firing.result.now c.items-all.result.now c.index-all-firing.result c.left.result.now c.firing-firing.ensures all_is here c.left.ensures.sources c.left.ensures.rates
    c.in_ok-lists.ensures.kinds c.in_ok-lists.ensures.args c.in_ok-lists.ensures.sources c.in_ok-lists.ensures.stored

pub returns-clause-own : goal.returns-clause-own
returns-clause-own c =
    let v = c.args.preparing.now in
    let all_is : c.items-all.result.now ≡ v.graphs.graphs = c.items-all.ensures ∙ ap (λ (x : Graphs). x.graphs) (c.deref.ensures ∙ c.graphs.ensures) in
    let here : c.index-all-firing.result ≡ graph_in v = graph_is v.graphs.graphs v.firing c.requires.fit c.items-all.result.now all_is c.firing-firing.result.now.graph (ap (λ (d : Firing). d.graph) c.firing-firing.ensures) c.index-all-firing.result c.index-all-firing.is in
    subst (λ (t : Type 0). t) (λ t. AreOwnParts (all_is t) (here t) (c.firing-firing.ensures t).path c.args.values.now c.in_ok-own.own) c.in_ok-own.ensures.parts

pub returns-clause-traces : goal.returns-clause-traces
returns-clause-traces c = record {
  one_each = ap (λ (rows : Vec (Vec (List TraceRow) Global) Global). length rows.items) c.in_ok-own.ensures.traces ∙ c.in_ok-traces.ensures.many ∙ ap length c.counts.ensures.value;
  each = λ a.
      ap (λ (rows : Vec (Vec (List TraceRow) Global) Global). row_at rows.items a) c.in_ok-own.ensures.traces
      ∙ c.in_ok-traces.ensures.rows a
      ∙ ap₂ (λ kinds counts. let none : List (List TraceRow) = replicate (call_count kinds counts a) [] in none) c.items.ensures c.counts.ensures.value;
}
