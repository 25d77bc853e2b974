use Rattle.std.proofs.Common.{◌≡◌, ◌++◌, drop}
use Rattle.pisdf_meaning.specs.Run.{taken}
use Rattle.quiescent_driver.specs.Streams.{rest_of}
use Rattle.quiescent_driver.proofs.streams.taken.Given as goal

-- what was taken so far, and what is taken of the streams that are left, is all
abbrev pub invariant-loop-stream : goal.invariant-loop-stream
invariant-loop-stream l =
    l.ins.items ++ taken (drop l.stream l.needs) (rest_of l.done (drop l.stream l.needs) (drop l.stream l.tokens)) ≡ taken l.needs (rest_of l.done l.needs l.tokens)
