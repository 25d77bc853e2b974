use Rattle.std.proofs.Common.{◌≡◌, length}
use Rattle.job_calls.proofs.frames.write.Given as goal

abbrev pub invariant-loop-port : goal.invariant-loop-port
invariant-loop-port l = record { places : l.frame.places ≡ l.fn.frame.places; outs : length l.frame.outputs ≡ l.outs }
