use Rattle.std.proofs.Common.{ap, ◌∙◌, subst}
use Rattle.graph_firing.specs.Nodes.Invariants.{fixed_of}
use Rattle.graph_firing.specs.Nodes.Leases.{LendsNodes}
use Rattle.graph_firing.specs.Nodes.View.{RunningView}
use Rattle.graph_firing.proofs.OfNodes.LentNodes.{lends_nodes}
use Rattle.graph_firing.proofs.nodes.running.Running.compiled.Goals as goal

pub returns-clause-value : goal.returns-clause-value
returns-clause-value c =
    let i = c.self.inside in
    c.compiled.ensures.value ∙ (c.self.invariant.set_up.compilation_is ∙ ap (λ (v : RunningView). v.cells.compilation) c.self.view_is)

pub returns-clause-lends : goal.returns-clause-lends
returns-clause-lends c =
    let i = c.self.inside in
    subst LendsNodes c.self.view_is (lends_nodes (fixed_of i) i.stages i.held.items i.ending.traces.items i.job c.self.invariant c.compiled.ensures.buffers)
