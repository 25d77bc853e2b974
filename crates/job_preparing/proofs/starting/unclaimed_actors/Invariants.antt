use Rattle.std.proofs.Common.{◌≡◌, length, vec_capacity}
use Rattle.job_preparing.specs.Unclaimed.{AreUnclaimed}
use Rattle.job_preparing.proofs.starting.unclaimed_actors.Given as goal

abbrev pub invariant-loop-number : goal.invariant-loop-number
invariant-loop-number l = record {
  unclaimed : AreUnclaimed l.graphs.graphs l.graph l.firing l.number l.stages.items l.frames.items;
  stage_room : vec_capacity l.stages ≡ length l.places;
  frame_room : vec_capacity l.frames ≡ length l.places;
}
