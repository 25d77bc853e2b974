use Rattle.std.proofs.Common.{length}
use Rattle.worker_mapping.proofs.Opening.{MovesSoFar}
use Rattle.worker_mapping.proofs.choice.move_due.Given as goal

-- some of those that are ready have moved
abbrev pub invariant-loop-first : goal.invariant-loop-first
invariant-loop-first l = MovesSoFar l.now l.priority l.fn.due.keys l.fn.later.keys l.due.keys l.later.keys

abbrev pub decreases-loop-first : goal.decreases-loop-first
decreases-loop-first l = length l.later.keys
