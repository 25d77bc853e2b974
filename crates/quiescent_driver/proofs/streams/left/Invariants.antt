use Rattle.std.proofs.Common.{◌≡◌, ◌++◌, drop, map, length}
use Rattle.quiescent_driver.specs.Streams.{rest_of}
use Rattle.quiescent_driver.proofs.streams.left.Given as goal

-- the counts so far, and those of the streams that are left, are all
abbrev pub invariant-loop-stream : goal.invariant-loop-stream
invariant-loop-stream l =
    l.counts.items ++ map (λ t. length t) (rest_of l.done (drop l.stream l.needs) (drop l.stream l.tokens)) ≡ map (λ t. length t) (rest_of l.done l.needs l.tokens)
