use Rattle.std.proofs.Common.{◌≡◌, ℤ, ◌+◌, ◌≤◌, List, length, take}
use Rattle.std.specs.List.{sum_by}
use Rattle.worker_crew.specs.Small.{most_tokens}
use Rattle.worker_crew.proofs.under_lock.is_small.Given as goal

abbrev pub invariant-loop-port : goal.invariant-loop-port
invariant-loop-port l = (l.port ≤ l.ports) × (l.room + sum_by (λ (output : List ℤ). length output) (take l.port l.frame.outputs) ≡ most_tokens)
