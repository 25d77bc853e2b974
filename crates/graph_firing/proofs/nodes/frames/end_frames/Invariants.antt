use Rattle.std.proofs.Common.{◌<◌, ◌^◌, length}
use Rattle.graph_firing.specs.Nodes.Parts.{HoldClaimed}
use Rattle.graph_firing.proofs.nodes.frames.end_frames.Given as goal

abbrev pub invariant-loop-held : goal.invariant-loop-held
invariant-loop-held l = record { held : HoldClaimed l.job.marks l.all.items; few : length l.all.items < 2 ^ 32 }

abbrev pub decreases-loop-held : goal.decreases-loop-held
decreases-loop-held l = goal.left-loop-held l
