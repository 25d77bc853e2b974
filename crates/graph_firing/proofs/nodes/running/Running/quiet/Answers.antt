use Rattle.std.proofs.Common.{ap, ◌∙◌}
use Rattle.graph_firing.specs.Nodes.Invariants.{fixed_of}
use Rattle.graph_firing.specs.Nodes.View.{is_quiet}
use Rattle.graph_firing.proofs.OfNodes.OfferedNodes.{quiet_is}
use Rattle.graph_firing.proofs.nodes.running.Running.quiet.Goals as goal

pub returns : goal.returns
returns c =
    let i = c.self.inside in
    quiet_is (fixed_of i) i.stages i.held.items i.ending.traces.items i.job c.self.invariant c.graphs_numbered.ensures.all c.graphs_numbered.ensures.in_order c.faults_renamed.ensures.ready c.faults_renamed.ensures.inputs c.quiet.result c.quiet.ensures.0 c.quiet.ensures.1
    ∙ ap is_quiet c.self.view_is
