use Rattle.std.proofs.Common.{subst}
use Rattle.one_job.specs.Pick.{IsFirst}
use Rattle.graph_firing.specs.Nodes.Invariants.{fixed_of}
use Rattle.graph_firing.specs.Nodes.View.{IsOfferedWork, RunningView}
use Rattle.graph_firing.proofs.OfNodes.OfferedNodes.{picks_work}
use Rattle.graph_firing.proofs.nodes.running.Running.pick.Goals as goal

pub returns : goal.returns
returns c =
    let i = c.self.inside in
    subst (λ (v : RunningView). IsFirst v.mapping c.args.worker (IsOfferedWork v) c.pick.result) c.self.view_is
    (picks_work (fixed_of i) i.stages i.held.items i.ending.traces.items i.job c.self.invariant c.graphs_numbered.ensures.all c.graphs_numbered.ensures.in_order c.faults_renamed.ensures.ready c.faults_renamed.ensures.inputs c.args.worker c.pick.result c.pick.ensures)
