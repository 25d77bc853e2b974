use Rattle.std.proofs.Common.{ℕ, ◌+◌, ◌*◌, Option, Some, None, length}
use Rattle.kernel_gate.specs.Value.{Places}
use Rattle.board_lock.specs.Passes.{PassView}
use Rattle.board_rules.specs.Keys.{Key}
use Rattle.board_rules.specs.declared.entry.Entry.{Entry}
use Rattle.worker_crew.proofs.crew.+crew+fn-crew-join_mut+arg2+fn-crew-join_mut+arg3.Given as goal

-- how many numbers the pass in a slot has
abbrev pub numbers_in : Option (PassView Key Entry Places) → ℕ
numbers_in None = 0
numbers_in (Some p) = length p.known.own

abbrev pub decreases-crew : goal.decreases-crew
decreases-crew g l = 2 * length l.pass.known.own

abbrev pub decreases-join_mut+arg2 : goal.decreases-join_mut+arg2
decreases-join_mut+arg2 g l = 2 * numbers_in l.one + 1

abbrev pub decreases-join_mut+arg3 : goal.decreases-join_mut+arg3
decreases-join_mut+arg3 g l = 2 * numbers_in l.other + 1
