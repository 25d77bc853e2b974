use Rattle.std.proofs.Common.{◌≡◌, ◌<◌, ◌≤◌, ◌+◌, ◌++◌, List, length, map, sym, ap, ◌∙◌, subst, arith, vec_len, vec_capacity}
use Rattle.std.proofs.lemmas.List.{length-map}
use Rattle.job_compiler.specs.Compilation.{Compilation}
use Rattle.job_flow.specs.GraphLaws.{GraphLaws}
use Rattle.job_flow.specs.Graphs.{node_at}
use Rattle.job_flow.specs.Outcomes.{ended, failure}
use Rattle.job_preparing.specs.Handing.{SuitsCall, given_of, with_traces}
use Rattle.one_job.specs.Marks as one
use Rattle.one_job.specs.View as leased
use Rattle.one_job.specs.View.{IsFiring}
use Rattle.param_resolver.specs.Numbering.{acting, has_state}
use Rattle.pisdf_meaning.specs.Running.{child_rows, state_after}
use Rattle.pisdf_model.specs.declared.graph.Graph.{Graph}
use Rattle.pisdf_model.specs.declared.graph.Graphs.{Graphs}
use Rattle.sdf_level.specs.declared.node.Node.{Node}
use Rattle.graph_firing.specs.Nodes.Invariants.{fixed_of, view_of}
use Rattle.graph_firing.specs.Nodes.Parts.{fired}
use Rattle.graph_firing.specs.Nodes.View.{RunningView, is_quiet, outcome_of, traces_of}
use Rattle.graph_firing.proofs.OfNodes.EndedFiring.{have_traces, none_held}
use Rattle.graph_firing.proofs.OfNodes.FiringEnds.{ends_done, failed_fires, failed_there, given_end, refused_here}
use Rattle.graph_firing.proofs.OfNodes.OfferedNodes.{told_quiet}
use Rattle.graph_firing.proofs.OfNodes.StartedFiring.{graph_inside, graph_is}
use Rattle.graph_firing.proofs.OfNodes.SuitedEnds.{end_suits}
use Rattle.std.specs.Arc.{arc_value}
use Rattle.job_preparing.specs.declared.compiling.ReadyLevel.{ReadyLevel}
use Rattle.graph_firing.proofs.nodes.running.Running.outcome.Goals as goal

pub take_refusal-called-requires : goal.take_refusal-called-requires
take_refusal-called-requires c =
    let i = c.self.inside in
    let quiet = told_quiet (fixed_of i) i.stages i.held.items i.ending.traces.items i.job c.self.invariant c.graphs_numbered.ensures.all c.graphs_numbered.ensures.in_order c.faults_renamed.ensures.ready c.faults_renamed.ensures.inputs (ap is_quiet c.self.view_is ∙ c.requires.quiet) in
    none_held (fixed_of i) i.stages i.held.items i.ending.traces.items i.job c.self.invariant quiet

pub spend_held-requires : goal.spend_held-requires
spend_held-requires c =
    let i = c.self.inside in
    let quiet = told_quiet (fixed_of i) i.stages i.held.items i.ending.traces.items i.job c.self.invariant c.graphs_numbered.ensures.all c.graphs_numbered.ensures.in_order c.faults_renamed.ensures.ready c.faults_renamed.ensures.inputs (ap is_quiet c.self.view_is ∙ c.requires.quiet) in
    none_held (fixed_of i) i.stages i.held.items i.ending.traces.items i.job c.self.invariant quiet

pub outcome-requires : goal.outcome-requires
outcome-requires c =
    let i = c.self.inside in
    let quiet = told_quiet (fixed_of i) i.stages i.held.items i.ending.traces.items i.job c.self.invariant c.graphs_numbered.ensures.all c.graphs_numbered.ensures.in_order c.faults_renamed.ensures.ready c.faults_renamed.ensures.inputs (ap is_quiet c.self.view_is ∙ c.requires.quiet) in
    quiet

pub bounds-items-node : goal.bounds-items-node
bounds-items-node c =
    let i = c.self.inside in
    let nodes_are : c.items.result.now ≡ i.job.compilation.graph.nodes = c.items.ensures ∙ ap (λ g. g.nodes) (c.graph.ensures.value ∙ ap (λ (x : Compilation). x.graph) (c.deref-in-Fault.ensures ∙ ap (λ (l : ReadyLevel). arc_value l.made.compiled) c.deref.ensures)) ∙ ap (λ (x : Compilation). x.graph.nodes) (sym c.self.invariant.set_up.compilation_is) in
    subst (λ (l : List Node). c.in-Fault.node < length l) (sym nodes_are) (failed_there (fixed_of i) i.stages i.held.items i.ending.traces.items i.job c.self.invariant c.faults_renamed.ensures.failure c.faults_renamed.ensures.ended c.in-Fault.node c.in-Fault.code (sym c.in-Fault.is ∙ c.outcome.ensures))

pub refusal_of-requires : goal.refusal_of-requires
refusal_of-requires c =
    let i = c.self.inside in
    let nodes_are : c.items.result.now ≡ i.job.compilation.graph.nodes = c.items.ensures ∙ ap (λ g. g.nodes) (c.graph.ensures.value ∙ ap (λ (x : Compilation). x.graph) (c.deref-in-Fault.ensures ∙ ap (λ (l : ReadyLevel). arc_value l.made.compiled) c.deref.ensures)) ∙ ap (λ (x : Compilation). x.graph.nodes) (sym c.self.invariant.set_up.compilation_is) in
    subst (λ (l : List Node). IsFiring (node_at l c.in-Fault.node)) (sym nodes_are) (failed_fires (fixed_of i) i.stages i.held.items i.ending.traces.items i.job c.self.invariant c.faults_renamed.ensures.failure c.faults_renamed.ensures.ended c.in-Fault.node c.in-Fault.code (sym c.in-Fault.is ∙ c.outcome.ensures))

pub returns-in-Fault-clause-end : goal.returns-in-Fault-clause-end
returns-in-Fault-clause-end c =
    let i = c.self.inside in
    let nodes_are : c.items.result.now ≡ i.job.compilation.graph.nodes = c.items.ensures ∙ ap (λ g. g.nodes) (c.graph.ensures.value ∙ ap (λ (x : Compilation). x.graph) (c.deref-in-Fault.ensures ∙ ap (λ (l : ReadyLevel). arc_value l.made.compiled) c.deref.ensures)) ∙ ap (λ (x : Compilation). x.graph.nodes) (sym c.self.invariant.set_up.compilation_is) in
    refused_here (fixed_of i) i.stages i.held.items i.ending.traces.items i.job c.self.invariant c.faults_renamed.ensures.failure c.faults_renamed.ensures.ended c.in-Fault.node c.in-Fault.code (sym c.in-Fault.is ∙ c.outcome.ensures) (node_at c.items.result.now c.in-Fault.node) c.take_refusal-called.result c.refusal_of.result (ap (λ (l : List Node). node_at l c.in-Fault.node) nodes_are) c.take_refusal-called.ensures c.refusal_of.ensures
    ∙ ap outcome_of c.self.view_is

pub bounds-items-place : goal.bounds-items-place
bounds-items-place c =
    let i = c.self.inside in
    graph_inside (fixed_of i).graphs.graphs (fixed_of i).firing c.self.invariant.set_up.fit c.items-in-Done.result.now (c.items-in-Done.ensures ∙ ap (λ (x : Graphs). x.graphs) c.deref-in-Done.ensures) i.place c.self.invariant.parts.place_is

pub job_given-requires-clause-room : goal.job_given-requires-clause-room
job_given-requires-clause-room c =
    let i = c.self.inside in
    let here : c.index-items-place.result ≡ fired (fixed_of i) = graph_is (fixed_of i).graphs.graphs (fixed_of i).firing c.self.invariant.set_up.fit c.items-in-Done.result.now (c.items-in-Done.ensures ∙ ap (λ (x : Graphs). x.graphs) c.deref-in-Done.ensures) i.place c.self.invariant.parts.place_is c.index-items-place.result c.index-items-place.is in
    subst (λ (g : Graph). vec_len i.ending.state + length g.fifos + length g.actors ≤ vec_capacity i.ending.state) (sym here) (let none = c.self.invariant.parts.none in let room = c.self.invariant.parts.room in omega arith)

pub job_given-requires-clause-many : goal.job_given-requires-clause-many
job_given-requires-clause-many c =
    let i = c.self.inside in
    let here : c.index-items-place.result ≡ fired (fixed_of i) = graph_is (fixed_of i).graphs.graphs (fixed_of i).firing c.self.invariant.set_up.fit c.items-in-Done.result.now (c.items-in-Done.ensures ∙ ap (λ (x : Graphs). x.graphs) c.deref-in-Done.ensures) i.place c.self.invariant.parts.place_is c.index-items-place.result c.index-items-place.is in
    ap length c.self.invariant.parts.keeps_are ∙ length-map (acting (fired (fixed_of i))) (has_state (fixed_of i).graphs.graphs) ∙ ap (λ (g : Graph). length (acting g)) (sym here)

pub returns-in-Done-clause-end : goal.returns-in-Done-clause-end
returns-in-Done-clause-end c =
    let i = c.self.inside in
    let here : c.index-items-place.result ≡ fired (fixed_of i) = graph_is (fixed_of i).graphs.graphs (fixed_of i).firing c.self.invariant.set_up.fit c.items-in-Done.result.now (c.items-in-Done.ensures ∙ ap (λ (x : Graphs). x.graphs) c.deref-in-Done.ensures) i.place c.self.invariant.parts.place_is c.index-items-place.result c.index-items-place.is in
    let done = ends_done (failure (leased.graph_of i.job) (one.values i.job.marks)) (ended (leased.graph_of i.job) (one.values i.job.marks)) c.in-Done.outs c.in-Done.stored (sym c.in-Done.is ∙ c.outcome.ensures) in
    let left_is = c.requires.left.all ∙ ap (λ (v : RunningView). v.prepared.left) (sym c.self.view_is) in
    let kept = c.self.invariant.parts.keeps_are ∙ ap (λ (g : Graph). map (has_state (fixed_of i).graphs.graphs) (acting g)) (sym here) in
    let state_is = c.job_given.ensures.state (fixed_of i).graphs.graphs kept ∙ ap (λ (g : Graph). state_after (fixed_of i).graphs.graphs g c.args.left.configured c.in-Done.stored) here in
    let trace_is = c.job_given.ensures.trace (fixed_of i).compilation.counts (traces_of (view_of i)) c.requires.left.traced (have_traces (fixed_of i) i.stages i.held.items i.ending.traces.items i.job c.self.invariant c.graphs_numbered.ensures.found c.graphs_numbered.ensures.firings) ∙ ap (λ (g : Graph). i.ending.rows ++ child_rows (fixed_of i).compilation.counts (traces_of (view_of i)) 0 g.actors (with_traces c.args.left.configured c.args.left.traces)) here in
    given_end (fixed_of i) i.stages i.held.items i.ending.traces.items i.job c.self.invariant c.faults_renamed.ensures.failure c.faults_renamed.ensures.ended done.none c.job_given.result.outs c.in-Done.stored (c.job_given.ensures.same.0 ∙ done.outs_are) done.stored_are c.args.left.configured c.args.left.traces left_is c.job_given.result.state state_is c.job_given.result.trace trace_is c.job_given.result.exports c.job_given.ensures.same.1
    ∙ ap outcome_of c.self.view_is

pub returns-in-Done-clause-suits : goal.returns-in-Done-clause-suits
returns-in-Done-clause-suits c =
    let i = c.self.inside in
    let here : c.index-items-place.result ≡ fired (fixed_of i) = graph_is (fixed_of i).graphs.graphs (fixed_of i).firing c.self.invariant.set_up.fit c.items-in-Done.result.now (c.items-in-Done.ensures ∙ ap (λ (x : Graphs). x.graphs) c.deref-in-Done.ensures) i.place c.self.invariant.parts.place_is c.index-items-place.result c.index-items-place.is in
    let quiet = told_quiet (fixed_of i) i.stages i.held.items i.ending.traces.items i.job c.self.invariant c.graphs_numbered.ensures.all c.graphs_numbered.ensures.in_order c.faults_renamed.ensures.ready c.faults_renamed.ensures.inputs (ap is_quiet c.self.view_is ∙ c.requires.quiet) in
    let done = ends_done (failure (leased.graph_of i.job) (one.values i.job.marks)) (ended (leased.graph_of i.job) (one.values i.job.marks)) c.in-Done.outs c.in-Done.stored (sym c.in-Done.is ∙ c.outcome.ensures) in
    let left_is = c.requires.left.all ∙ ap (λ (v : RunningView). v.prepared.left) (sym c.self.view_is) in
    let kept = c.self.invariant.parts.keeps_are ∙ ap (λ (g : Graph). map (has_state (fixed_of i).graphs.graphs) (acting g)) (sym here) in
    let state_is = c.job_given.ensures.state (fixed_of i).graphs.graphs kept ∙ ap (λ (g : Graph). state_after (fixed_of i).graphs.graphs g c.args.left.configured c.in-Done.stored) here in
    let n = c.graphs_numbered.ensures in
    let laws : GraphLaws = record { found = n.found; once = n.once; there = n.firings; stands = n.in_order; all = n.all; tiers = n.tiers; ends = n.ends; tokens = n.tokens; names_fit = n.names; ports = n.ports; used = n.used } in
    subst (λ (v : RunningView). SuitsCall v.graphs.graphs v.firing (given_of c.job_given.result)) c.self.view_is
    (end_suits (fixed_of i) i.stages i.held.items i.ending.traces.items i.job c.self.invariant laws c.tokens_delivered.ensures.one_flow c.tokens_delivered.ensures.delivers quiet done.none c.job_given.result.outs c.in-Done.stored (c.job_given.ensures.same.0 ∙ done.outs_are) done.stored_are c.args.left.configured c.args.left.traces left_is c.job_given.result.state state_is c.job_given.result.trace c.job_given.result.exports c.job_given.ensures.same.1)
