use Rattle.std.proofs.Common.{◌≡◌, length}
use Rattle.lock_calls.proofs.turns.step_all.Given as goal

abbrev pub invariant-loop-step : goal.invariant-loop-step
invariant-loop-step g l = record {
  first_lock : l.first.lock ≡ l.lock;
  second_lock : l.second.lock ≡ l.lock;
  first_number : l.first.known.number ≡ l.initial.first.known.number;
  first_count : length l.first.known.own ≡ length l.initial.first.known.own;
  first_workers : l.first.known.workers ≡ l.initial.first.known.workers;
  second_number : l.second.known.number ≡ l.initial.second.known.number;
  second_count : length l.second.known.own ≡ length l.initial.second.known.own;
}
