use Rattle.std.proofs.Common.{◌≡◌, Some, refl, sym, ap, ◌∙◌, subst}
use Rattle.pisdf_meaning.specs.Configuring.{early_in}
use Rattle.graph_firing.specs.Nodes.Invariants.{fixed_of}
use Rattle.graph_firing.specs.Nodes.View.{IsOfferedCall, RunningView, task}
use Rattle.graph_firing.proofs.OfNodes.CalledNodes.{called_early, numbers}
use Rattle.graph_firing.proofs.nodes.running.Running.known.Goals as goal

pub of_caller-requires : goal.of_caller-requires
of_caller-requires c =
    let i = c.self.inside in
    let offered = subst (λ (v : RunningView). IsOfferedCall v c.args.node) (sym c.self.view_is) c.requires in
    let same = (numbers (fixed_of i) i.stages i.held.items i.ending.traces.items i.job c.self.invariant c.args.node c.faults_renamed.ensures.ready c.faults_renamed.ensures.inputs c.ready_stays.ensures.ready offered c.node-which.result c.firing_of-actor.result.0 c.firing_of-actor.result.1 c.node-which.ensures c.firing_of-actor.ensures).0 in
    record { early = early_in (fixed_of i).graphs.graphs offered.job; is = called_early (fixed_of i) i.stages i.held.items i.ending.traces.items i.job c.self.invariant c.args.node c.faults_renamed.ensures.ready c.faults_renamed.ensures.inputs c.ready_stays.ensures.ready offered c.level_by_actor.ensures.each c.firing_of-actor.result.0 same offered.job refl }

pub returns-in-Ok : goal.returns-in-Ok
returns-in-Ok c = λ d is.
    let i = c.self.inside in
    let offered = subst (λ (v : RunningView). IsOfferedCall v c.args.node) (sym c.self.view_is) c.requires in
    let same = (numbers (fixed_of i) i.stages i.held.items i.ending.traces.items i.job c.self.invariant c.args.node c.faults_renamed.ensures.ready c.faults_renamed.ensures.inputs c.ready_stays.ensures.ready offered c.node-which.result c.firing_of-actor.result.0 c.firing_of-actor.result.1 c.node-which.ensures c.firing_of-actor.ensures).0 in
    let calls = sym (ap (λ (v : RunningView). task v c.args.node) c.self.view_is ∙ is) ∙ offered.task_is in
    let d_is : d ≡ offered.job = cc in
    let found : Some (Some c.in-Ok.early) ≡ Some (Some (early_in (fixed_of i).graphs.graphs d)) = sym c.in-Ok.ensures ∙ called_early (fixed_of i) i.stages i.held.items i.ending.traces.items i.job c.self.invariant c.args.node c.faults_renamed.ensures.ready c.faults_renamed.ensures.inputs c.ready_stays.ensures.ready offered c.level_by_actor.ensures.each c.firing_of-actor.result.0 same d d_is in
    let known : c.in-Ok.early ≡ early_in (fixed_of i).graphs.graphs d = cc in
    known ∙ ap (λ (v : RunningView). early_in v.graphs.graphs d) c.self.view_is
