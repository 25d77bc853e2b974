use Rattle.std.proofs.Common.{subst}
use Rattle.graph_firing.specs.Nodes.Parts.{NoneWaits}
use Rattle.graph_firing.proofs.OfNodes.HeldFrames.{in_none, last_not, rest_none}
use Rattle.graph_firing.proofs.nodes.frames.spend_held.Goals as goal

pub told_refusal-requires : goal.told_refusal-requires
told_refusal-requires c = in_none c.in-Some.held (last_not c.pop.new.self.items c.in-Some.held (subst NoneWaits c.in-Some.ensures.items c.loop-held.invariant))

pub loop-held-preserved : goal.loop-held-preserved
loop-held-preserved c = rest_none c.pop.new.self.items c.in-Some.held (subst NoneWaits c.in-Some.ensures.items c.loop-held.invariant)
