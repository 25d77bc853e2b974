use Rattle.std.proofs.Common.{◌≡◌, drop}
use Rattle.pisdf_meaning.specs.Run.{first_lack}
use Rattle.quiescent_driver.specs.Streams.{rest_of}
use Rattle.quiescent_driver.proofs.streams.first_lack.Given as goal

-- the first lack is one of the streams that are left
abbrev pub invariant-loop-stream : goal.invariant-loop-stream
invariant-loop-stream l =
    first_lack l.stream (drop l.stream l.needs) (rest_of l.done (drop l.stream l.needs) (drop l.stream l.tokens)) ≡ first_lack 0 l.needs (rest_of l.done l.needs l.tokens)
