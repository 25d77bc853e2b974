use Rattle.std.proofs.Common.{sym, subst}
use Rattle.job_preparing.specs.Handing.{IsNothingLent}
use Rattle.graph_firing.specs.Nodes.Invariants.{fixed_of}
use Rattle.graph_firing.specs.Nodes.View.{RunningView}
use Rattle.graph_firing.proofs.OfNodes.EndedFiring.{hold_claimed}
use Rattle.graph_firing.proofs.nodes.running.Running.end.Goals as goal

pub end_frames-requires-clause-waiting : goal.end_frames-requires-clause-waiting
end_frames-requires-clause-waiting c =
    let i = c.self.inside in
    hold_claimed (fixed_of i) i.stages i.held.items i.ending.traces.items i.job c.self.invariant (subst (λ (v : RunningView). IsNothingLent v.lent) (sym c.self.view_is) c.requires)
