use Rattle.std.proofs.Common.{◌≡◌, length}
use Rattle.lock_calls.proofs.turns.add_many.Given as goal

abbrev pub invariant-loop-amount : goal.invariant-loop-amount
invariant-loop-amount g l = record {
  lock : l.pass.lock ≡ l.lock;
  number : l.pass.known.number ≡ l.initial.pass.known.number;
  count : length l.pass.known.own ≡ length l.initial.pass.known.own;
  workers : l.pass.known.workers ≡ l.initial.pass.known.workers;
}
