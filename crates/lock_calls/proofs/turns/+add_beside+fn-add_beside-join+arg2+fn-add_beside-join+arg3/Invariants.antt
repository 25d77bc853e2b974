use Rattle.std.proofs.Common.{◌+◌, ◌*◌, length}
use Rattle.lock_calls.proofs.turns.+add_beside+fn-add_beside-join+arg2+fn-add_beside-join+arg3.Given as goal

abbrev pub decreases-add_beside : goal.decreases-add_beside
decreases-add_beside g l = 2 * length l.pass.known.own

abbrev pub decreases-join+arg2 : goal.decreases-join+arg2
decreases-join+arg2 g l = 2 * length l.first.known.own + 1

abbrev pub decreases-join+arg3 : goal.decreases-join+arg3
decreases-join+arg3 g l = 2 * length l.second.known.own + 1
