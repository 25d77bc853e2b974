use Rattle.std.proofs.Common.{◌≡◌, ◌++◌, drop}
use Rattle.sdf_level.specs.Lists.{lists_of}
use Rattle.pisdf_meaning.specs.Running.{fifo_starts}
use Rattle.pisdf_meaning.proofs.states.push_fifo_starts.Given as goal

-- with what is still to come they are all
abbrev pub invariant-loop-place : goal.invariant-loop-place
invariant-loop-place l = lists_of l.lines.items ++ fifo_starts l.graph l.state l.place (drop l.place l.graph.fifos) ≡ lists_of l.initial.lines.items ++ fifo_starts l.graph l.state 0 l.graph.fifos
