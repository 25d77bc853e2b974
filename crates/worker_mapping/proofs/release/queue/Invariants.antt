use Rattle.std.proofs.Common.{length}
use Rattle.worker_mapping.proofs.Opening.{QueuedSoFar}
use Rattle.worker_mapping.proofs.release.queue.Given as goal

abbrev pub invariant-loop-node : goal.invariant-loop-node
invariant-loop-node l = QueuedSoFar l.fn.candidates.items l.candidates.items l.ready l.fn.later.keys l.later.keys

abbrev pub decreases-loop-node : goal.decreases-loop-node
decreases-loop-node l = length l.candidates.items
