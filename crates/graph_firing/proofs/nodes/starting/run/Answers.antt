use Rattle.std.proofs.Common.{ap, ◌∙◌, subst}
use Rattle.std.specs.Arc.{arc_value}
use Rattle.pisdf_meaning.specs.declared.firing.Firing.{Firing}
use Rattle.job_preparing.specs.declared.compiling.ReadyLevel.{ReadyLevel}
use Rattle.graph_firing.specs.Nodes.Starting.{Starts, fixed_by}
use Rattle.graph_firing.proofs.OfNodes.StartedFiring.{starts_so}
use Rattle.graph_firing.proofs.nodes.starting.run.Goals as goal

pub invariant_of-result : goal.invariant_of-result
invariant_of-result c =
    let found = starts_so c.args.preparing.now (arc_value (arc_value c.args.level).made.compiled) (arc_value c.args.level).made.set c.in_ok-own.field-0 (arc_value c.in_ok-graphs.graphs) c.of.result.value c.told_left.result c.firing-firing.result.now.graph
    (c.in_ok-graphs.ensures ∙ c.graphs.ensures) (c.of.ensures ∙ c.firing-firing.ensures) c.told_left.ensures (ap (λ (f : Firing). f.graph) c.firing-firing.ensures) (subst (λ (l : ReadyLevel). Starts (fixed_by c.args.preparing.now (arc_value l.made.compiled) l.made.set c.in_ok-own.field-0) c.in_ok-own.field-0) c.deref.ensures c.in_ok-own.ensures) in
    found.keeps

pub returns-clause-free : goal.returns-clause-free
returns-clause-free c =
    let found = starts_so c.args.preparing.now (arc_value (arc_value c.args.level).made.compiled) (arc_value c.args.level).made.set c.in_ok-own.field-0 (arc_value c.in_ok-graphs.graphs) c.of.result.value c.told_left.result c.firing-firing.result.now.graph
    (c.in_ok-graphs.ensures ∙ c.graphs.ensures) (c.of.ensures ∙ c.firing-firing.ensures) c.told_left.ensures (ap (λ (f : Firing). f.graph) c.firing-firing.ensures) (subst (λ (l : ReadyLevel). Starts (fixed_by c.args.preparing.now (arc_value l.made.compiled) l.made.set c.in_ok-own.field-0) c.in_ok-own.field-0) c.deref.ensures c.in_ok-own.ensures) in
    found.free

pub returns-clause-nothing : goal.returns-clause-nothing
returns-clause-nothing c =
    let found = starts_so c.args.preparing.now (arc_value (arc_value c.args.level).made.compiled) (arc_value c.args.level).made.set c.in_ok-own.field-0 (arc_value c.in_ok-graphs.graphs) c.of.result.value c.told_left.result c.firing-firing.result.now.graph
    (c.in_ok-graphs.ensures ∙ c.graphs.ensures) (c.of.ensures ∙ c.firing-firing.ensures) c.told_left.ensures (ap (λ (f : Firing). f.graph) c.firing-firing.ensures) (subst (λ (l : ReadyLevel). Starts (fixed_by c.args.preparing.now (arc_value l.made.compiled) l.made.set c.in_ok-own.field-0) c.in_ok-own.field-0) c.deref.ensures c.in_ok-own.ensures) in
    found.nothing
