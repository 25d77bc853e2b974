use Rattle.std.specs.List.{All}
use Rattle.job_preparing.specs.Standing.{IsOwn}
use Rattle.job_preparing.proofs.starting.spend_frames.Given as goal

abbrev pub invariant-loop-waiting : goal.invariant-loop-waiting
invariant-loop-waiting l = All IsOwn l.frames.items

abbrev pub decreases-loop-waiting : goal.decreases-loop-waiting
decreases-loop-waiting l = goal.left-loop-waiting l
