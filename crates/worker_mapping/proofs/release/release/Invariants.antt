use Rattle.std.proofs.Common.{take}
use Rattle.worker_mapping.specs.Release.{Releases}
use Rattle.worker_mapping.proofs.release.release.Given as goal

-- the nodes so far have been released
abbrev pub invariant-loop-head : goal.invariant-loop-head
invariant-loop-head l = Releases (take l.head-index l.heads) l.end l.initial.waiting l.initial.ready l.initial.candidates.items l.waiting l.ready l.candidates.items
