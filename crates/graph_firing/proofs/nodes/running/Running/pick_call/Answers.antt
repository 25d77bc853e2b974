use Rattle.std.proofs.Common.{subst}
use Rattle.one_job.specs.Pick.{IsFirst}
use Rattle.graph_firing.specs.Nodes.Invariants.{fixed_of}
use Rattle.graph_firing.specs.Nodes.View.{IsOfferedCall, RunningView}
use Rattle.graph_firing.proofs.OfNodes.OfferedNodes.{picks_call}
use Rattle.graph_firing.proofs.nodes.running.Running.pick_call.Goals as goal

pub returns : goal.returns
returns c =
    let i = c.self.inside in
    subst (λ (v : RunningView). IsFirst v.mapping c.args.worker (IsOfferedCall v) c.pick_child.result) c.self.view_is
    (picks_call (fixed_of i) i.stages i.held.items i.ending.traces.items i.job c.self.invariant c.graphs_numbered.ensures.all c.graphs_numbered.ensures.in_order c.faults_renamed.ensures.ready c.faults_renamed.ensures.inputs c.args.worker c.pick_child.result c.pick_child.ensures)
