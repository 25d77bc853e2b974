use Rattle.std.proofs.Common.{◌<◌, ◌^◌, length}
use Rattle.job_calls.specs.Held.{HoldClaimed}
use Rattle.job_calls.proofs.places.end_frames.Given as goal

abbrev pub invariant-loop-place : goal.invariant-loop-place
invariant-loop-place l = record { held : HoldClaimed l.job.marks l.frames.items; few : length l.frames.items < 2 ^ 32 }

abbrev pub decreases-loop-place : goal.decreases-loop-place
decreases-loop-place l = goal.left-loop-place l
