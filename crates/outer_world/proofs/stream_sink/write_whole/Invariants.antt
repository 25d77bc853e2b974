use Rattle.std.proofs.Common.{length}
use Rattle.outer_world.proofs.Sent.{Sent}
use Rattle.outer_world.proofs.stream_sink.write_whole.Given as goal

abbrev pub invariant-loop-rest : goal.invariant-loop-rest
invariant-loop-rest g l = Sent (g.W.Write.contents l.initial.out) (g.W.Write.contents l.out) l.bytes l.rest

-- each turn takes at least one byte
abbrev pub decreases-loop-rest : goal.decreases-loop-rest
decreases-loop-rest g l = length l.rest
